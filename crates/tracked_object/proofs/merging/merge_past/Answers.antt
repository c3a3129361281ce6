-- `tracked_object::merging::merge_past` meets its contract: each entry lies in the candidate's block, and is the next turn's.
use Rattle.std.proofs.Common.{rules, arith, sym, ap, ◌∙◌, inl, inr, ◌≡◌, ◌<◌, ◌≤◌, ◌+◌, ◌*◌, ℕ, List, ◌∷◌, ◌++◌, Float, length, get_or, take, drop, length-drop}
use Rattle.std.proofs.lemmas.List.{take_at, drop_at, drop_more, drop-drop, length_push, get_or-take, length-take}
use Rattle.laws.proofs.Turns.{turns_next}
use Rattle.parts.specs.declared.TrackerConfig.{TrackerConfig}
use Rattle.parts.specs.declared.PastDetection.{PastDetection}
use Rattle.parts.specs.Layout.{width, past_place, block_size}
use Rattle.parts.specs.Ranges.{unaged}
use Rattle.tracked_object.specs.Object.{history_merged}
use Rattle.tracked_object.proofs.MergeLaws.{turn, entry_inside, kept_added}
use Rattle.tracked_object.proofs.merging.merge_past.Goals as goal

-- the next of the marks that are left
next_mark : (n i : ℕ) (l : List PastDetection) (x : PastDetection) (r : List PastDetection) → x ∷ r ≡ drop i (take n l)
    → (i < n) × (x ≡ get_or l i unaged) × (r ≡ drop (i + 1) (take n l))
next_mark n i l x r h =
    let long = ap length h in
    let below : i < length (take n l) = omega (arith, length-drop i (take n l)) in
    let few : i < n = omega (arith, length-take n l) in
    let e = h ∙ drop_more (take n l) i unaged below in
    let same = get_or-take n l i unaged few in
    (few, cc, cc)

-- the next of the entries that are left
next_entry : (w at : ℕ) (l e r : List Float) → e ++ r ≡ drop at l → length e ≡ w → (e ≡ take w (drop at l)) × (r ≡ drop (at + w) l)
next_entry w at l e r h long =
    (sym (take_at e r w long) ∙ ap (take w) h, sym (drop_at e r w long) ∙ ap (drop w) h ∙ drop-drop w at l)

-- where less than an entry is left, none of the first n is
entries_left : (c : TrackerConfig) (from : List Float) (n i : ℕ) → length from ≡ block_size c → n ≤ c.past_detections_length
    → length (drop (past_place c + i * width c) from) < width c → n ≤ i
entries_left c from n i whole few short =
    let long = length-drop (past_place c + i * width c) from in
    let inside = entry_inside c i in
    grind (arith, inside)

pub loop-mark-preserved : goal.loop-mark-preserved
loop-mark-preserved c =
    let a = c.args in
    let config = a.settings.config in
    let w = width config in
    let i = length c.loop-mark.yielded in
    let left = c.loop-mark.invariant in
    let s = c.in-Some.ensures.steps in
    let whole = s.1.1.1 ∙ left.size in
    let mark = next_mark a.candidate.past_count i a.candidate.past _ _ (sym s.0 ∙ left.marks_left) in
    let entry = next_entry w (past_place config + i * w) a.from.now _ _ (sym s.1.1.0 ∙ left.floats_left) whole in
    let one = length_push c.loop-mark.yielded (c.in-Some.mark, c.in-Some.entry) in
    let e = c.conditionally_add_to_past_detections-marks.ensures in
    let behind : past_place config + (i + 1) * w ≡ past_place config + i * w + w = omega arith in
    record {
      marks_left = rw one mark.2;
      floats_left = rw (one, behind) entry.1;
      few = omega (arith, mark.0);
      size = s.1.0 ∙ left.size;
      merged = rw one (turns_next (turn config a.age a.candidate.past a.from.now) i _ (rw (mark.1, entry.0) at e) left.merged);
      kept = rw e (kept_added config a.settings.sizes a.age (omega arith) _ _ _ _ whole left.kept);
    }

pub returns : goal.returns
unfolding history_merged
returns c =
    let a = c.args in
    let config = a.settings.config in
    let n = a.candidate.past_count in
    let i = length c.loop-mark.yielded in
    let left = c.loop-mark.invariant in
    let eight : length a.candidate.past ≡ 8 = search rules in
    let all : n ≤ i =
    elim c.in-None.ensures.steps [
      | inl w ↦ omega (arith, w.1.0, ap length left.marks_left, length-drop i (take n a.candidate.past), length-take n a.candidate.past, a.settings.sizes.past_most)
      | inr w ↦ entries_left config a.from.now n i (omega arith) (omega arith) (rw (left.floats_left, left.size) at w.1.1.0)
    ] in
    let e : i ≡ n = omega arith in
    rw e at left.merged
