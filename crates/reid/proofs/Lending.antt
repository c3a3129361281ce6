-- Rule 61: what `merge_at` lends on: the old record's block, and the candidate's copied out.
use mathlib.Core.Path.{◌≡◌, sym, ◌∙◌, ap}
use mathlib.Core.List.{List, ◌++◌}
use Prim.Native.Nat.{ℕ, ◌+◌, ◌-◌, ◌*◌, ◌≤◌}
use lib.Ieee.{Float}
use lib.ListN.{length, take, drop, replicate}
use lib.Seq.{paste, take_at}
use Rattle.std.proofs.lemmas.List.{drop-replicate}
use Rattle.laws.specs.Float64.{f0}
use Rattle.laws.specs.Lists.{filled}
use Rattle.laws.proofs.Pasting.{part_same, length_part, part_long, part_back}
use Rattle.parts.specs.declared.TrackerConfig.{TrackerConfig}
use Rattle.parts.specs.declared.block.Layout.{Layout}
use Rattle.parts.specs.Layout.{block_size, layout_of}

-- a block in front of an array of zeros
pub copied_out : (s : List Float) (start size : ℕ) {block : List Float} → size ≤ 864 → start + size ≤ length s
    → block ≡ take (start + size - start) (drop start s)
    → block ++ drop size (replicate 864 f0) ≡ filled 864 f0 (take size (drop start s))
copied_out s start size few fits e = rw (e, part_same s start size, length_part s start size fits, drop-replicate)

-- by the layout that the code computed: blocks a and b lie in the floats
pub record Lends (c : TrackerConfig) (r : Layout) (s : List Float) (a b : ℕ) : Type 0 where
  pub layout : r ≡ layout_of c
  pub from : a * block_size c + block_size c ≤ length s
  pub on : b * block_size c + block_size c ≤ length s

abbrev pub block_at : TrackerConfig → List Float → ℕ → List Float
block_at c s i = take (block_size c) (drop (i * block_size c) s)

module _ {c : TrackerConfig} {r : Layout} {s : List Float} {a b : ℕ} (lends : Lends c r s a b) where
  size_is : r.size ≡ block_size c
  size_is = ap (λ (x : Layout). x.size) lends.layout

  from_inside : a * r.size + r.size ≤ length s
  from_inside = rw size_is lends.from

  on_inside : b * r.size + r.size ≤ length s
  on_inside = rw size_is lends.on

  on_long : length (take (b * r.size + r.size - b * r.size) (drop (b * r.size) s)) ≡ block_size c
  on_long = part_long s (b * r.size) r.size on_inside ∙ size_is

  module _ {copy : List Float} (copied : copy ≡ filled 864 f0 (take r.size (drop (a * r.size) s))) where
    block_long : length (take r.size (drop (a * r.size) s)) ≡ r.size
    block_long = length_part s (a * r.size) r.size from_inside

    copy_same : take r.size copy ≡ block_at c s a
    copy_same =
        let block = take r.size (drop (a * r.size) s) in
        ap (take r.size) copied ∙ take_at block (replicate (864 - length block) f0) r.size block_long ∙ rw size_is

    -- what a merge made of both blocks
    pub by_blocks : {B : Type 0} (g : List Float → List Float → B) {x : B}
        → x ≡ g (take r.size copy) (take (b * r.size + r.size - b * r.size) (drop (b * r.size) s)) → x ≡ g (block_at c s a) (block_at c s b)
    by_blocks g same = same ∙ rw (copy_same, part_same s (b * r.size) r.size, size_is)

    -- and the old one's back among the floats
    pub block_back : (g : List Float → List Float → List Float) {ys : List Float}
        → length ys ≡ length (take (b * r.size + r.size - b * r.size) (drop (b * r.size) s))
        → ys ≡ g (take r.size copy) (take (b * r.size + r.size - b * r.size) (drop (b * r.size) s))
        → take (b * r.size) s ++ (ys ++ drop (b * r.size + r.size - b * r.size) (drop (b * r.size) s))
        ≡ paste s (b * block_size c) (g (block_at c s a) (block_at c s b)) (block_size c)
    block_back g {ys = ys} long same =
        part_back s (b * r.size) r.size ys (long ∙ on_long ∙ sym size_is) ∙ rw (by_blocks g same, size_is)
