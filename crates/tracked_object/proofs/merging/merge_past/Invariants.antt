-- `tracked_object::merging::merge_past` meets its contract: after i entries the history is that of i turns, and the iterator has the rest left.
use Rattle.std.proofs.Common.{◌≡◌, ◌≤◌, ◌+◌, ◌*◌, length, take, drop}
use Rattle.std.specs.Iterator.Adapters.{zip_first, zip_second}
use Rattle.std.specs.Slice.Iter.{iter_rest, chunks_exact_rest, chunks_exact_size}
use Rattle.laws.specs.Turns.{turns}
use Rattle.parts.specs.Layout.{width, past_place}
use Rattle.tracked_object.specs.Object.{history}
use Rattle.tracked_object.proofs.MergeLaws.{HistoryKept, turn}
use Rattle.tracked_object.proofs.merging.merge_past.Given as goal

abbrev pub invariant-loop-mark : goal.invariant-loop-mark
invariant-loop-mark l =
    record {
      marks_left : iter_rest (zip_first l.mark-iterator) ≡ drop (length l.yielded) (take l.fn.candidate.past_count l.fn.candidate.past);
      floats_left : chunks_exact_rest (zip_second l.mark-iterator)
          ≡ drop (past_place l.settings.config + length l.yielded * width l.settings.config) l.from;
      few : length l.yielded ≤ l.fn.candidate.past_count;
      size : chunks_exact_size (zip_second l.mark-iterator) ≡ width l.settings.config;
      merged : history l.marks.past l.marks.count l.s
          ≡ turns (turn l.settings.config l.age l.fn.candidate.past l.from) (length l.yielded) (history l.fn.marks.past l.fn.marks.count l.fn.s);
      kept : HistoryKept l.settings.config (take (past_place l.settings.config) l.fn.s) (history l.marks.past l.marks.count l.s);
    }
