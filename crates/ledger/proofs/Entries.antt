-- Rule 75: each call adds its entry at the history's end, whether it begins a frame or joins one.
use mathlib.Core.Path.{◌≡◌, refl, sym, ◌∙◌, ap}
use mathlib.Core.Bool.{Bool, true, false, cond}
use mathlib.Core.List.{List, [], ◌∷◌, ◌++◌, append_assoc, append-nil}
use Rattle.ledger.specs.History.{Call, Entry, Day, entry_of, begins, joined, waiting, goes_on}
use Rattle.ledger.specs.Demand.{gather, entries}

-- ---- what is gathered from a list

module _ {A B : Type 0} (f : A → List B) where
  gather_append : (l m : List A) → gather f (l ++ m) ≡ gather f l ++ gather f m
  unfolding gather
  gather_append [] m = refl
  gather_append (x ∷ l) m = rw (gather_append l m) (sym (append_assoc (f x) (gather f l) (gather f m)))

  pub gather_snoc : (l : List A) (x : A) → gather f (l ++ (x ∷ [])) ≡ gather f l ++ f x
  unfolding gather
  gather_snoc l x = gather_append l (x ∷ []) ∙ ap (λ (r : List B). gather f l ++ r) (append-nil (f x))

-- ---- the history

abbrev in_frames : List (List Entry) → List Entry
in_frames l = gather (λ frame. frame) l

-- an entry joins the last frame, or waits where there is none
in_frames_joined : (e : Entry) (l : List (List Entry)) → waiting e l ++ in_frames (joined e l) ≡ in_frames l ++ (e ∷ [])
unfolding gather joined waiting
in_frames_joined e [] = refl
in_frames_joined e (f ∷ []) = append-nil (f ++ (e ∷ [])) ∙ ap (λ (r : List Entry). r ++ (e ∷ [])) (sym (append-nil f))
in_frames_joined e (f ∷ (g ∷ l)) = ap (λ (r : List Entry). f ++ r) (in_frames_joined e (g ∷ l)) ∙ sym (append_assoc f (in_frames (g ∷ l)) (e ∷ []))

pub entries_on : (call : Call) (d : Day) → entries (goes_on call d) ≡ entries d ++ (entry_of call d.world ∷ [])
unfolding goes_on
entries_on call d = go (begins (entry_of call d.world)) (entry_of call d.world)
  where
    go : (b : Bool) (e : Entry)
        → cond b d.early (d.early ++ waiting e d.frames) ++ in_frames (cond b (d.frames ++ ((e ∷ []) ∷ [])) (joined e d.frames))
        ≡ (d.early ++ in_frames d.frames) ++ (e ∷ [])
    go true e = rw (gather_snoc (λ frame. frame) d.frames (e ∷ [])) (sym (append_assoc d.early (in_frames d.frames) (e ∷ [])))
    go false e =
        append_assoc d.early (waiting e d.frames) (in_frames (joined e d.frames))
        ∙ ap (λ (r : List Entry). d.early ++ r) (in_frames_joined e d.frames)
        ∙ sym (append_assoc d.early (in_frames d.frames) (e ∷ []))
