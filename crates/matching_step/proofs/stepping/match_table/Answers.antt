-- The first refusal that is due is the answer, and where none is the step runs.
use Rattle.table.proofs.Due.{checked_passed}
use Rattle.std.proofs.Common.{◌∙◌, sym, arith, length}
use Rattle.passes.specs.Checks.{lent_frame, lengths_of}
use Rattle.matching_step.proofs.Readiness.{decidable, told_given, due_given, refused_value, refused_floats, Picking, askable, pairs_bound, pairable, due_decided, startable, accepted_value, accepted_floats}
use Rattle.matching_step.proofs.stepping.match_table.Goals as goal
use Rattle.matching_step.proofs.stepping.match_table.Goals.{After-decide-decided}

-- ---- a refusal before the picks

pub returns-in-Err-clause-value : goal.returns-in-Err-clause-value
returns-in-Err-clause-value c =
    let due = due_given c.args.t c.args.s.now c.args.detections (lent_frame c.args.f) c.args.places (told_given c.args.t c.args.s.now c.args.detections (lent_frame c.args.f) c.args.places c.lengths-lengths.ensures c.given_refusal.ensures ∙ c.in-Err.is) in
    refused_value c.args.t c.args.s.now c.args.detections (lent_frame c.args.f) c.args.places due c.refused.ensures

pub returns-in-Err-clause-s_after : goal.returns-in-Err-clause-s_after
returns-in-Err-clause-s_after c =
    let due = due_given c.args.t c.args.s.now c.args.detections (lent_frame c.args.f) c.args.places (told_given c.args.t c.args.s.now c.args.detections (lent_frame c.args.f) c.args.places c.lengths-lengths.ensures c.given_refusal.ensures ∙ c.in-Err.is) in
    refused_floats c.args.t c.args.s.now c.args.detections (lent_frame c.args.f) c.args.places due

pub decide-decided-requires : goal.decide-decided-requires
decide-decided-requires c =
    let a = c.args in
    let f = lent_frame a.f in
    let told = told_given a.t a.s.now a.detections f a.places c.lengths-lengths.ensures c.given_refusal.ensures in
    decidable a.t (length a.s.now) a.f.period a.detections (lengths_of f a.places) (checked_passed _ (told ∙ c.in_default.is))

-- ---- a refusal once they are decided

came : (c : After-decide-decided) → Picking c.args.t c.args.s.now c.args.detections (lent_frame c.args.f) c.args.places c.decide-decided.result
came c =
    record {
      none = checked_passed _ (told_given c.args.t c.args.s.now c.args.detections (lent_frame c.args.f) c.args.places c.lengths-lengths.ensures c.given_refusal.ensures ∙ c.in_default.is);
      made = c.decide-decided.ensures;
    }

pub decided_refusal-requires : goal.decided_refusal-requires
decided_refusal-requires c = askable (came (goal.at.decided_refusal-requires c).After-decide-decided)

pub returns-in-Err-decided_refusal-clause-value : goal.returns-in-Err-decided_refusal-clause-value
returns-in-Err-decided_refusal-clause-value c =
    let due = due_decided (came (goal.at.returns-in-Err-decided_refusal-clause-value c).After-decide-decided) (sym c.decided_refusal.ensures ∙ c.in-Err-decided_refusal.is) in
    refused_value c.args.t c.args.s.now c.args.detections (lent_frame c.args.f) c.args.places due c.refused-in-Err-decided_refusal.ensures

pub returns-in-Err-decided_refusal-clause-s_after : goal.returns-in-Err-decided_refusal-clause-s_after
returns-in-Err-decided_refusal-clause-s_after c =
    let due = due_decided (came (goal.at.returns-in-Err-decided_refusal-clause-s_after c).After-decide-decided) (sym c.decided_refusal.ensures ∙ c.in-Err-decided_refusal.is) in
    refused_floats c.args.t c.args.s.now c.args.detections (lent_frame c.args.f) c.args.places due

-- ---- no refusal is due

pub pairs_of-pairs-requires : goal.pairs_of-pairs-requires
pairs_of-pairs-requires c = pairable (came (goal.at.pairs_of-pairs-requires c).After-decide-decided)

pub match_step-table-requires : goal.match_step-table-requires
match_step-table-requires c =
    startable (came (goal.at.match_step-table-requires c).After-decide-decided) (sym c.decided_refusal.ensures ∙ c.in_default-decided_refusal.is) (omega arith)

pub returns-clause-value : goal.returns-clause-value
returns-clause-value c =
    let d = came (goal.at.returns-clause-value c).After-decide-decided in
    accepted_value d (sym c.decided_refusal.ensures ∙ c.in_default-decided_refusal.is) c.pairs_of-pairs.ensures c.match_step-table.ensures.value

pub returns-clause-count_bound : goal.returns-clause-count_bound
returns-clause-count_bound c = pairs_bound (came (goal.at.returns-clause-count_bound c).After-decide-decided)

pub returns-clause-s_after : goal.returns-clause-s_after
returns-clause-s_after c =
    let d = came (goal.at.returns-clause-s_after c).After-decide-decided in
    accepted_floats d (sym c.decided_refusal.ensures ∙ c.in_default-decided_refusal.is) c.match_step-table.ensures.s_after
