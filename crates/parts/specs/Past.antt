-- Rules 45 and 62: a history of at most so many entries, oldest first, each of so many elements of a list, from a place of the list on.
use Rattle.std.specs.Prelude.{Bool, false, cond, List, ℕ, ◌+◌, ◌-◌, ◌*◌, min, ltb, leb, ℤ, pos, negsuc, drop, Option, Some, None}
use Rattle.std.proofs.Math.Seq.{paste}

-- where the history is full the oldest leaves, and the others move down
abbrev pub room_made : {A : Type 0} → ℕ → ℕ → ℕ → ℕ → List A → List A
room_made most width at count l = cond (ltb count most) l (paste l at (drop (at + width) l) ((most - 1) * width))

-- the place of the next entry
abbrev pub place_of : ℕ → ℕ → ℕ → ℕ → ℕ
place_of most width at count = at + min count (most - 1) * width

-- an entry joins the history, the oldest leaving beyond the most
abbrev pub pushed : {A : Type 0} → ℕ → ℕ → ℕ → ℕ → List A → List A → List A
pushed most width at count entry l = paste (room_made most width at count l) (place_of most width at count) entry width

-- a full history takes an entry if the oldest has an age, and the record's age is at least that times the length
abbrev pub is_due : Option ℤ → ℕ → ℕ → Bool
is_due None age most = false
is_due (Some (negsuc n)) age most = false
is_due (Some (pos oldest)) age most = leb (oldest * most) age
