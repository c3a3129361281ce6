-- The model of a table with its floats: slots put back in their places are found there again.
use mathlib.Core.Path.{◌≡◌, refl, sym, ◌∙◌, ap}
use mathlib.Core.Logic.{⊎_elim}
use mathlib.Core.List.{List, [], ◌∷◌, ◌++◌, map, map-append, append_assoc, append-nil}
use Prim.Native.Nat.{ℕ, zero, suc, ◌+◌, ◌*◌, ◌<◌, ◌≤◌}
use native.Mathlib.Nat.{zero-mul, suc-mul, mul-le-mul_right, le_trans, le_of_suc-le-suc, eq-or-lt_of_le}
use native.Mathlib.Omega.{arith}
use lib.Ieee.{Float}
use lib.ListN.{length, get_or, set, take, drop, length-append, length-map, length-set, take-append-drop, get_or-append, get_or-map}
use lib.Seq.{paste, take-suc, take-add, take-nil, take_at, take_all, drop-nil, drop-cons, drop-append-add, drop-append-le, take-append-add, get_or_at, get_or-take, set-append_left, set_split, ext_get_or}
use Rattle.laws.specs.Every.{Every, none, one}
use Rattle.laws.specs.Lists.{below}
use Rattle.laws.proofs.Elements.{get_or-any}
use Rattle.laws.proofs.Every.{every_at, every_map, every_below}
use Rattle.laws.proofs.Growing.{length_snoc}
use Rattle.laws.proofs.Fronts.{front_length, front_behind, front_get_or_behind, front_set, front_put, front_paste, drop-take, take_fewer}
use Rattle.laws.proofs.Mapped.{map-set}
use Rattle.laws.proofs.Pasting.{length_part}
use Rattle.parts.specs.declared.TrackedObject.{TrackedObject}
use Rattle.table.specs.Making.{zero_object}
use Rattle.table.specs.Slots.{Slot, slots, objects_of, blocks_of, records_back, floats_back, name_of, names}

-- every block has b floats
abbrev pub Sized : ℕ → List Slot → Type 0
Sized b l = Every (λ s. length s.block ≡ b) l

-- ---- the blocks one behind another

pub blocks_append : (l m : List Slot) → blocks_of (l ++ m) ≡ blocks_of l ++ blocks_of m
unfolding blocks_of
blocks_append [] m = refl
blocks_append (s ∷ l) m = rw (blocks_append l m) (sym (append_assoc s.block (blocks_of l) (blocks_of m)))

pub blocks_snoc : (l : List Slot) (y : Slot) → blocks_of (l ++ (y ∷ [])) ≡ blocks_of l ++ y.block
unfolding blocks_of
blocks_snoc l y = blocks_append l (y ∷ []) ∙ ap (λ (r : List Float). blocks_of l ++ r) (append-nil y.block)

pub blocks_length : {b : ℕ} {l : List Slot} → Sized b l → length (blocks_of l) ≡ length l * b
unfolding blocks_of
blocks_length {b = b} none = sym (zero-mul b)
blocks_length {b = b} (one {x = s} {l} h r) = omega (arith, length-append s.block (blocks_of l), blocks_length r, suc-mul (length l) b)

past_one : {b n : ℕ} (i : ℕ) → n ≡ b → suc i * b ≡ n + i * b
past_one {b = b} i e = omega (arith, suc-mul i b)

pub blocks_take : {b : ℕ} {l : List Slot} (i : ℕ) → Sized b l → take (i * b) (blocks_of l) ≡ blocks_of (take i l)
unfolding blocks_of
blocks_take zero r = rw zero-mul
blocks_take {b = b} (suc i) none = take-nil (suc i * b)
blocks_take (suc i) (one h r) = rw (past_one i h, take-append-add, blocks_take i r)

pub blocks_drop : {b : ℕ} {l : List Slot} (i : ℕ) → Sized b l → drop (i * b) (blocks_of l) ≡ blocks_of (drop i l)
unfolding blocks_of
blocks_drop zero r = rw zero-mul
blocks_drop {b = b} (suc i) none = drop-nil (suc i * b)
blocks_drop (suc i) (one h r) = rw (past_one i h, drop-append-add, blocks_drop i r)

pub blocks_set : {b : ℕ} {l : List Slot} (i : ℕ) (y : Slot) → Sized b l → i < length l → length y.block ≡ b
    → blocks_of (set l i y) ≡ paste (blocks_of l) (i * b) y.block b
unfolding blocks_of
blocks_set {b = b} {l = l} i y r h e =
    let whole = take_all b y.block (omega arith) in
    rw (set_split l i y h, blocks_append, blocks_take i r, whole, ← suc-mul i b, blocks_drop (suc i) r)
    (sym (append_assoc (blocks_of (take i l)) y.block (blocks_of (drop (suc i) l))))

-- a slot's block ends within the blocks
pub block_fits : (b i n : ℕ) → i < n → i * b + b ≤ n * b
block_fits b i n h = rw suc-mul at (mul-le-mul_right {m = suc i} {n = n} b h)

pub block_whole : (b n : ℕ) (floats : List Float) → n * b ≤ length floats → (i : ℕ) → i < n → length (take b (drop (i * b) floats)) ≡ b
block_whole b n floats room i h = length_part floats (i * b) b (le_trans (block_fits b i n h) room)

-- ---- the records put back

pub objects_length : (l : List Slot) → length (objects_of l) ≡ length l
objects_length l = length-map l (λ s. s.object)

pub names_objects : (l : List Slot) → map name_of (objects_of l) ≡ names l
names_objects [] = refl
names_objects (x ∷ l) = ap (λ (r : List ℕ). name_of x.object ∷ r) (names_objects l)

module _ (l : List Slot) (records : List TrackedObject) where
  pub records_length : length l ≤ length records → length (records_back l records) ≡ length records
  records_length = front_length (objects_of l) (length l) records (objects_length l)

  pub records_front : (i : ℕ) (z : TrackedObject) → i < length l → get_or (records_back l records) i z ≡ get_or (objects_of l) i z
  records_front i z h = get_or-append (objects_of l) (drop (length l) records) z i (omega (arith, objects_length l))

  pub records_at : (i : ℕ) (z : TrackedObject) (d : Slot) → i < length l → get_or (records_back l records) i z ≡ (get_or l i d).object
  records_at i z d h =
      records_front i z h ∙ get_or-any (objects_of l) i z d.object (omega (arith, objects_length l)) ∙ get_or-map (λ s. s.object) l i d

  pub records_behind : (i : ℕ) (z : TrackedObject) → length l ≤ i → get_or (records_back l records) i z ≡ get_or records i z
  records_behind = front_get_or_behind (objects_of l) (length l) records (objects_length l)

  -- a second put-back covers the first
  pub records_again : (m : List Slot) → length l ≤ length m → records_back m (records_back l records) ≡ records_back m records
  records_again m h = rw (front_behind (objects_of l) (length l) records (objects_length l) (length m) h)

  -- one slot more
  pub records_put : (y : Slot) → length l < length records → records_back (l ++ (y ∷ [])) records ≡ set (records_back l records) (length l) y.object
  records_put y h = rw (map-append, length_snoc) (front_set (objects_of l) (length l) records (objects_length l) y.object h)

  -- one slot replaced
  pub records_swap : (i : ℕ) (y : Slot) → i < length l → records_back (set l i y) records ≡ set (records_back l records) i y.object
  records_swap i y h =
      rw (map-set (λ (s : Slot). s.object) l i y, length-set)
      (sym (set-append_left (objects_of l) (drop (length l) records) i y.object (omega (arith, objects_length l))))

-- ---- the floats put back

module _ {b : ℕ} {l : List Slot} (sized : Sized b l) (floats : List Float) where
  pub floats_length : length l * b ≤ length floats → length (floats_back b l floats) ≡ length floats
  floats_length = front_length (blocks_of l) (length l * b) floats (blocks_length sized)

  pub floats_at : (i : ℕ) (d : Slot) → i < length l → take b (drop (i * b) (floats_back b l floats)) ≡ (get_or l i d).block
  unfolding blocks_of
  floats_at i d h =
      let rest = drop (length l * b) floats in
      let fits = block_fits b i (length l) h in
      rw (drop-append-le (i * b) (blocks_of l) rest (omega (arith, blocks_length sized)), blocks_drop i sized, drop-cons l i d h, append_assoc)
      (take_at (get_or l i d).block (blocks_of (drop (suc i) l) ++ rest) b (every_at i d sized h))

  pub floats_behind : (k : ℕ) → length l * b ≤ k → drop k (floats_back b l floats) ≡ drop k floats
  floats_behind = front_behind (blocks_of l) (length l * b) floats (blocks_length sized)

  pub floats_again : (m : List Slot) → length l ≤ length m → floats_back b m (floats_back b l floats) ≡ floats_back b m floats
  floats_again m h = rw (floats_behind (length m * b) (mul-le-mul_right b h))

  pub floats_put : (y : Slot) → length y.block ≡ b
      → floats_back b (l ++ (y ∷ [])) floats ≡ paste (floats_back b l floats) (length l * b) y.block b
  floats_put y e =
      rw (blocks_snoc, length_snoc, suc-mul) (front_put (blocks_of l) (length l * b) floats (blocks_length sized) y.block b e)

  pub floats_swap : (i : ℕ) (y : Slot) → i < length l → length y.block ≡ b
      → floats_back b (set l i y) floats ≡ paste (floats_back b l floats) (i * b) y.block b
  floats_swap i y h e =
      rw (blocks_set i y sized h e, length-set)
      (front_paste (blocks_of l) (length l * b) floats (blocks_length sized) (i * b) y.block b (block_fits b i (length l) h))

-- ---- the slots of a table

-- the slot at place i
abbrev pub slot_at : ℕ → List TrackedObject → List Float → ℕ → Slot
slot_at b records floats i = record { object = get_or records i zero_object; block = take b (drop (i * b) floats) }

module _ (b : ℕ) (records : List TrackedObject) (floats : List Float) where
  pub slots_suc : (n : ℕ) → slots b records floats (suc n) ≡ slots b records floats n ++ (slot_at b records floats n ∷ [])
  unfolding slots
  slots_suc n = refl

  pub slots_length : (n : ℕ) → length (slots b records floats n) ≡ n
  unfolding slots
  slots_length zero = refl
  slots_length (suc n) = length_snoc (slots b records floats n) (slot_at b records floats n) ∙ ap suc (slots_length n)

  pub slots_at : (n i : ℕ) (d : Slot) → i < n → get_or (slots b records floats n) i d ≡ slot_at b records floats i
  unfolding slots
  slots_at zero i d h = absurd (omega arith)
  slots_at (suc n) i d h =
      let l = slots b records floats n in
      let s = slot_at b records floats n in
      ⊎_elim
      (λ (e : i ≡ n). rw e (get_or_at l s [] d n (slots_length n)))
      (λ (q : i < n). get_or-append l (s ∷ []) d i (omega (arith, slots_length n)) ∙ slots_at n i d q)
      (eq-or-lt_of_le (le_of_suc-le-suc h))

  pub slots_mapped : (n : ℕ) → slots b records floats n ≡ map (slot_at b records floats) (below n)
  unfolding slots below
  slots_mapped zero = refl
  slots_mapped (suc n) = rw (slots_mapped n) (sym (map-append (slot_at b records floats) (below n) (n ∷ [])))

  -- what is so at each place
  pub slots_every : {P : Slot → Type 0} (n : ℕ) → ((i : ℕ) → i < n → P (slot_at b records floats i)) → Every P (slots b records floats n)
  slots_every n each = rw (slots_mapped n) (every_map (slot_at b records floats) (every_below n each))

  pub slots_sized : (n : ℕ) → n * b ≤ length floats → Sized b (slots b records floats n)
  slots_sized n h = slots_every n (block_whole b n floats h)

  pub slots_objects : (n : ℕ) → n ≤ length records → objects_of (slots b records floats n) ≡ take n records
  unfolding slots
  slots_objects zero h = refl
  slots_objects (suc n) h = rw (map-append, slots_objects n (omega arith), take-suc records n zero_object h)

  pub slots_blocks : (n : ℕ) → blocks_of (slots b records floats n) ≡ take (n * b) floats
  unfolding slots blocks_of
  slots_blocks zero = rw zero-mul
  slots_blocks (suc n) = rw (blocks_snoc, slots_blocks n, suc-mul, take-add)

  -- put back where they stand, they move nothing
  pub records_unmoved : (n : ℕ) → n ≤ length records → records_back (slots b records floats n) records ≡ records
  records_unmoved n h = rw (slots_objects n h, slots_length n, take-append-drop)

  pub floats_unmoved : (n : ℕ) → floats_back b (slots b records floats n) floats ≡ floats
  floats_unmoved n = rw (slots_blocks n, slots_length n, take-append-drop)

-- what was put back is found again
pub slots_back : {b : ℕ} {l : List Slot} → Sized b l → (records : List TrackedObject) (floats : List Float)
    → slots b (records_back l records) (floats_back b l floats) (length l) ≡ l
slots_back {b = b} {l = l} sized records floats =
    let r = records_back l records in
    let f = floats_back b l floats in
    let d : Slot = record { object = zero_object; block = [] } in
    let n = slots_length b r f (length l) in
    ext_get_or d (slots b r f (length l)) l n
    (λ i h.
    let k : i < length l = omega arith in
    slots_at b r f (length l) i d k ∙ rw (records_at l records i zero_object d k, floats_at sized floats i d k))

-- only the first n records and n * b floats matter
pub slots_alike : (b : ℕ) (r q : List TrackedObject) (f g : List Float) (n : ℕ) → take n r ≡ take n q → take (n * b) f ≡ take (n * b) g
    → slots b r f n ≡ slots b q g n
unfolding slots
slots_alike b r q f g zero e h = refl
slots_alike b r q f g (suc n) e h =
    let w : take (n * b + b) f ≡ take (n * b + b) g = rw suc-mul at h in
    let front = slots_alike b r q f g n (take_fewer n (suc n) r q (omega arith) e) (take_fewer (n * b) (n * b + b) f g (omega arith) w) in
    let last : (l : List TrackedObject) → get_or (take (suc n) l) n zero_object ≡ get_or l n zero_object = λ l. get_or-take (suc n) l n zero_object (omega arith) in
    let object = sym (last r) ∙ ap (λ (l : List TrackedObject). get_or l n zero_object) e ∙ last q in
    let block = sym (drop-take (n * b) b f) ∙ ap (drop (n * b)) w ∙ drop-take (n * b) b g in
    rw (front, object, block)
