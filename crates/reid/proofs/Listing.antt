-- Rule 64: one record more: counted and listed if it is active.
use mathlib.Core.Path.{◌≡◌, refl, sym, ap}
use mathlib.Core.Bool.{Bool, true, false}
use mathlib.Core.List.{List, [], ◌∷◌, ◌++◌, map-append}
use Prim.Native.Nat.{ℕ, suc, ◌+◌, ◌<◌, ◌≤◌}
use native.Mathlib.Omega.{arith}
use native.Mathlib.Numerals.{add-one}
use lib.ListN.{length, get_or, set, take, drop, length-map, length-take}
use lib.Seq.{take-suc, take-length}
use Rattle.std.specs.List.{filter}
use Rattle.laws.specs.Lists.{keep}
use Rattle.laws.proofs.Growing.{length_snoc, joins, stays_out, length-keep}
use Rattle.laws.proofs.Fronts.{front_length, front_set}
use Rattle.parts.specs.declared.TrackedObject.{TrackedObject}
use Rattle.reid.specs.Step.{active, active_of, active_ids}

-- what a test keeps is what std's `filter` lets through
keep_is_filter : {A : Type 0} (p : A → Bool) (l : List A) → keep p l ≡ filter p l
unfolding keep
keep_is_filter p [] = refl
keep_is_filter p (x ∷ l) = rw (keep_is_filter p l)

pub active_counted : (records : List TrackedObject) → length (active_of (length records) records) ≡ length (filter active records)
active_counted records = rw (take-length, keep_is_filter active records)

pub active_few : (n : ℕ) (records : List TrackedObject) → length (active_ids n records) ≤ n
active_few n records = simp length-map (omega (arith, length-keep active (take n records), length-take n records))

-- the IDs of the first i in front of a list, and how many
abbrev pub Listed : List TrackedObject → ℕ → List ℕ → List ℕ → ℕ → Type 0
Listed records i list₀ list count =
    (count ≡ length (active_ids i records)) × (list ≡ active_ids i records ++ drop (length (active_ids i records)) list₀)

pub listed_long : (records : List TrackedObject) (i : ℕ) (list₀ : List ℕ) {list : List ℕ} {count : ℕ} → Listed records i list₀ list count
    → length (active_ids i records) ≤ length list₀ → length list ≡ length list₀
listed_long records i list₀ held h = rw held.1 (front_length (active_ids i records) (length (active_ids i records)) list₀ refl h)

module _ (records : List TrackedObject) (i : ℕ) (d : TrackedObject) (h : i < length records) where
  stays : active (get_or records i d) ≡ false → active_of (i + 1) records ≡ active_of i records
  stays e = rw (add-one i, take-suc records i d h) (stays_out active (take i records) (get_or records i d) e)

  joined : active (get_or records i d) ≡ true → active_of (i + 1) records ≡ active_of i records ++ (get_or records i d ∷ [])
  joined e = rw (add-one i, take-suc records i d h) (joins active (take i records) (get_or records i d) e)

  module _ (list₀ : List ℕ) {list : List ℕ} {count : ℕ} (held : Listed records i list₀ list count) where
    pub listed_more : active (get_or records i d) ≡ true → length (active_ids i records) < length list₀
        → Listed records (i + 1) list₀ (set list count (get_or records i d).origin.global_id) (count + 1)
    listed_more e room =
        let ids = active_ids i records in
        let id = (get_or records i d).origin.global_id in
        let next : active_ids (i + 1) records ≡ ids ++ (id ∷ []) = rw (joined e) (map-append (λ o. o.origin.global_id) (active_of i records) (get_or records i d ∷ [])) in
        rw (next, length_snoc ids id, add-one count) (ap suc held.0, rw (held.0, held.1) (sym (front_set ids (length ids) list₀ refl id room)))

    pub listed_same : active (get_or records i d) ≡ false → Listed records (i + 1) list₀ list count
    listed_same e = rw (stays e) held
