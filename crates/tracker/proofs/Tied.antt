-- Rules 11 to 13: the statements of specs/Statements.antt are the contracts' own text, clause for clause, and no public call asks anything of its caller.
use mathlib.Core.Path.{◌≡◌, refl}
use seplogic.Ra.Ura.{Ura}
use prog.Memory.{Memory}
use prog.Routine.{Routine}
use contract.Lifetimes.{Lfts}
use contract.Monad.{Fun}
use contract.Notation.{connectives}
use types.Logic.{Logic}
use base.Logic.{SProp}
use Rattle.passes.specs.Checks.{lent_frame}
use Rattle.tracker.specs.Statements.{NewSays, PredictAnswers, PredictLeaves, MatchAnswers, MatchLeaves, MatchLists, ReidAnswers, ReidLeaves, ReidLists, TotalSays, CurrentSays}
use Rattle.tracker.specs.contracts.new as new
use Rattle.tracker.specs.contracts.predict as predict
use Rattle.tracker.specs.contracts.match_detections as matching
use Rattle.tracker.specs.contracts.reid as reid
use Rattle.tracker.specs.contracts.total_object_count as total
use Rattle.tracker.specs.contracts.current_object_count as current

-- for every model of the program logic
module _ {M : Type 1} {𝓤 : Ura M} (𝓛 : Logic 𝓤) (mem : Memory → SProp 𝓤) (run : Routine → Fun 𝓤) where
  open connectives 𝓤 use {⌜◌⌝, ◌∗◌, ⊤ₛ}

  pub new_tied : (κs : Lfts 1) (args : _) (r : _) (end : _) →
      let says = new.clauses 𝓛 mem run κs args in
      (says.requires tt ≡ ⊤ₛ) × (says.ensures tt r end ≡ ⌜ NewSays args.0 args.1.0.now r ⌝)
  new_tied κs args r end = (refl, refl)

  pub predict_tied : (κs : Lfts 1) (args : _) (r : _) (end : _) →
      let says = predict.clauses 𝓛 mem run κs args in
      let t = args.0 in
      let s = args.1.0.now in
      (says.requires tt ≡ ⊤ₛ) × (says.ensures tt r end ≡ (⌜ PredictAnswers t s r ⌝ ∗ ⌜ PredictLeaves t s end.1.0.now ⌝))
  predict_tied κs args r end = (refl, refl)

  pub total_tied : (κs : Lfts 0) (args : _) (r : _) (end : _) →
      let says = total.clauses 𝓛 mem run κs args in
      (says.requires tt ≡ ⊤ₛ) × (says.ensures tt r end ≡ ⌜ TotalSays args.0 r ⌝)
  total_tied κs args r end = (refl, refl)

  pub current_tied : (κs : Lfts 0) (args : _) (r : _) (end : _) →
      let says = current.clauses 𝓛 mem run κs args in
      (says.requires tt ≡ ⊤ₛ) × (says.ensures tt r end ≡ ⌜ CurrentSays args.0 r ⌝)
  current_tied κs args r end = (refl, refl)

  pub reid_tied : (κs : Lfts 3) (args : _) (r : _) (end : _) →
      let says = reid.clauses 𝓛 mem run κs args in
      let t = args.0 in
      let s = args.1.0.now in
      let d = args.1.1.0.now in
      let l = args.1.1.1.0.now in
      (says.requires tt ≡ ⊤ₛ)
      × (says.ensures tt r end ≡ (⌜ ReidAnswers t s d l r ⌝ ∗ (⌜ ReidLeaves t s d l end.1.0.now ⌝ ∗ ⌜ ReidLists t s d l end.1.1.1.0.now ⌝)))
  reid_tied κs args r end = (refl, refl)

  -- t, storage, detections, what is lent of the frame, pairs
  pub match_tied : (κs : Lfts 3) (args : _) (r : _) (end : _) →
      let says = matching.clauses 𝓛 mem run κs args in
      let t = args.0 in
      let s = args.1.0.now in
      let n = args.1.1.0 in
      let f = lent_frame args.1.1.1.0 in
      let l = args.1.1.1.1.0.now in
      (says.requires tt ≡ ⊤ₛ)
      × (says.ensures tt r end ≡ (⌜ MatchAnswers t s n f l r ⌝ ∗ (⌜ MatchLeaves t s n f l end.1.0.now ⌝ ∗ ⌜ MatchLists t s n f l end.1.1.1.1.0.now ⌝)))
  match_tied κs args r end = (refl, refl)
