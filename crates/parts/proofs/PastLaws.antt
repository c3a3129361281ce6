-- Rules 45 and 62: afterwards the history is the last `most` of the old history and the entry, and the rest of the list is as it was.
use mathlib.Core.Path.{◌≡◌, refl, sym, ◌∙◌, ap}
use mathlib.Core.Bool.{Bool, true, false, cond}
use mathlib.Core.List.{List, [], ◌∷◌, ◌++◌}
use Prim.Native.Nat.{ℕ, suc, ◌+◌, ◌-◌, ◌*◌, ◌<◌, ◌≤◌, min}
use native.Mathlib.Nat.{zero-mul, one-mul, suc-mul, mul-le-mul_right}
use native.Mathlib.Omega.{arith}
use borrow.Author.Tests.{ltb-true, ltb-false}
use lib.Dec.{ltb}
use lib.ListN.{length, set, take, drop, length-drop}
use lib.Seq.{paste, length-paste, length-take-le, take-add, take_all, drop_at, drop-drop, drop-append-le}
use Rattle.laws.proofs.Pasting.{paste_front, paste_behind, paste_part, paste_here, paste_one}
use Rattle.parts.specs.Past.{room_made, place_of, pushed}

-- all entries but one, and one
pub all_but_one : (most width : ℕ) → 0 < most → (most - 1) * width + width ≡ most * width
all_but_one most width h =
    let e : suc (most - 1) ≡ most = omega arith in
    sym (suc-mul (most - 1) width) ∙ ap (λ (k : ℕ). k * width) e

-- the place of the next entry lies in the history
pub inside : (most width count : ℕ) → 0 < most → min count (most - 1) * width + width ≤ most * width
inside most width count h = rw suc-mul at (mul-le-mul_right {m = suc (min count (most - 1))} {n = most} width (omega arith))

module _ {A : Type 0} (most width at count : ℕ) (l : List A)
    (some : 0 < most) (full : count ≤ most) (fits : at + most * width ≤ length l) where
  -- what room for an entry leaves: the entries that stay, in front
  record Roomy (r : List A) : Type 0 where
    long : length r ≡ length l
    front : take at r ≡ take at l
    behind : drop (at + most * width) r ≡ drop (at + most * width) l
    stay : take (min count (most - 1) * width) (drop at r) ≡ drop ((count + 1 - min (count + 1) most) * width) (take (count * width) (drop at l))

  roomy : (b : Bool) → ltb count most ≡ b → Roomy (cond b l (paste l at (drop (at + width) l) ((most - 1) * width)))
  roomy true t =
      let h = ltb-true count most t in
      let stays : min count (most - 1) ≡ count = omega arith in
      let leaves : count + 1 - min (count + 1) most ≡ 0 = omega arith in
      record { long = refl; front = refl; behind = refl; stay = rw (stays, leaves, zero-mul) }
  roomy false t =
      let h = ltb-false count most t in
      let w = (most - 1) * width in
      let s = drop (at + width) l in
      let stays : min count (most - 1) ≡ most - 1 = omega arith in
      let leaves : count + 1 - min (count + 1) most ≡ 1 = omega arith in
      let all : count ≡ most = omega arith in
      let e = all_but_one most width some in
      let split : most * width ≡ width + w = omega arith in
      let n = length-drop (at + width) l in
      let n₀ = length-drop at l in
      let moved = paste_here l at s w (omega arith) (omega arith) in
      record {
        long = length-paste l at s w (omega arith) (omega arith);
        front = paste_front l at s w at (omega arith) (omega arith);
        behind = paste_behind l at s w (at + most * width) (omega arith) (omega arith) (omega arith);
        stay =
            rw (stays, leaves, all, split, one-mul, take-add width w (drop at l))
            (moved ∙ sym (drop_at (take width (drop at l)) (take w (drop width (drop at l))) width (length-take-le width (drop at l) (omega arith)) ∙ ap (take w) (drop-drop width at l)));
      }

  room : Roomy (room_made most width at count l)
  room = roomy (ltb count most) refl

  module _ (entry : List A) (whole : length entry ≡ width) where
    pub length-pushed : length (pushed most width at count entry l) ≡ length l
    length-pushed =
        let i = inside most width count some in
        let r = room.long in
        length-paste (room_made most width at count l) (place_of most width at count) entry width (omega arith) (omega arith) ∙ r

    pub history_after : take (min (count + 1) most * width) (drop at (pushed most width at count entry l))
        ≡ drop ((count + 1 - min (count + 1) most) * width) (take (count * width) (drop at l) ++ entry)
    history_after =
        let i = inside most width count some in
        let r = room.long in
        let n = length-drop at l in
        let stays : min (count + 1) most ≡ suc (min count (most - 1)) = omega arith in
        let w : min (count + 1) most * width ≡ min count (most - 1) * width + width = ap (λ (k : ℕ). k * width) stays ∙ suc-mul (min count (most - 1)) width in
        let held = mul-le-mul_right {m = count} {n = most} width full in
        let leaves = mul-le-mul_right {m = count + 1 - min (count + 1) most} {n = count} width (omega arith) in
        let old = length-take-le (count * width) (drop at l) (omega arith) in
        rw w
        (paste_part (room_made most width at count l) at (min count (most - 1) * width) entry width (omega arith) (omega arith)
        ∙ rw (room.stay, take_all width entry (omega arith))
        (sym (drop-append-le ((count + 1 - min (count + 1) most) * width) (take (count * width) (drop at l)) entry (omega arith))))

    pub history_elsewhere : (take at (pushed most width at count entry l) ≡ take at l)
        × (drop (at + most * width) (pushed most width at count entry l) ≡ drop (at + most * width) l)
    history_elsewhere =
        let i = inside most width count some in
        let r = room.long in
        let made = room_made most width at count l in
        let place = place_of most width at count in (
          paste_front made place entry width at (omega arith) (omega arith) ∙ room.front,
          paste_behind made place entry width (at + most * width) (omega arith) (omega arith) (omega arith) ∙ room.behind,
        )

-- entries of one element: the new one is stored at its place
pub one_pushed : {A : Type 0} (most count : ℕ) (l : List A) (entry : A) → 0 < most → count ≤ most → most ≤ length l
    → set (room_made most 1 0 count l) (min count (most - 1)) entry ≡ pushed most 1 0 count (entry ∷ []) l
one_pushed most count l entry some full fits =
    let long = (room most 1 0 count l some full (omega arith)).long in
    let place : place_of most 1 0 count ≡ min count (most - 1) = omega arith in
    rw place (paste_one (room_made most 1 0 count l) (min count (most - 1)) entry (omega arith))
