-- Rule 42: what the loop over the picks holds at each turn: the picks done in its arrays, and the rest still to come.
use mathlib.Core.Path.{◌≡◌, refl, sym, ◌∙◌, ap}
use mathlib.Core.Bool.{Bool, true}
use mathlib.Core.List.{List, [], ◌∷◌, ◌++◌, map, append_assoc, append-nil, map-append}
use Prim.Native.Nat.{ℕ, zero, suc, ◌+◌, ◌-◌, ◌<◌, ◌≤◌}
use native.Mathlib.Omega.{arith}
use lib.ListN.{length, set, length-map}
use Rattle.laws.specs.Lists.{padded}
use Rattle.laws.proofs.Growing.{length_snoc, filled_next}
use Rattle.matching.specs.declared.Picks.{Picks}
use Rattle.std.specs.Prelude.{Some, None}
use Rattle.matching.specs.Greedy.{Matrix, Pick, rows_of, cols_of, next_pick, greedy, picks}
use Rattle.matching.specs.Lent.{picks_of}

abbrev pick : ℕ → ℕ → Pick
pick i j = record { row = i; col = j }

-- a turn of `greedy` that finds a pick, and one that finds none
pub greedy-picks : (m : Matrix) (k : ℕ) (ur uc : List Bool) (i j : ℕ) → next_pick m ur uc ≡ Some (i, j)
    → greedy m (suc k) ur uc ≡ pick i j ∷ greedy m k (set ur i true) (set uc j true)
unfolding greedy
greedy-picks m k ur uc i j e = rw e

pub greedy_ends : (m : Matrix) (k : ℕ) (ur uc : List Bool) → next_pick m ur uc ≡ None → greedy m k ur uc ≡ []
unfolding greedy
greedy_ends m zero ur uc e = refl
greedy_ends m (suc k) ur uc e = rw e

pub record Held (m : Matrix) (ur₀ uc₀ : List Bool) (n : ℕ) (ur uc : List Bool) (rs cs : List ℕ) : Type 0 where
  pub done : List Pick
  pub count : n ≡ length done
  pub at_rows : rs ≡ padded 32 (rows_of done)
  pub at_cols : cs ≡ padded 32 (cols_of done)
  pub rest : picks m ur₀ uc₀ ≡ done ++ greedy m (m.rows - n) ur uc

-- one number more behind those of the picks done, by row or by column
snoc : (f : Pick → ℕ) (l : List Pick) (p : Pick) (n : ℕ) (xs : List ℕ) → n ≡ length l → n < 32 → xs ≡ padded 32 (map f l)
    → set xs n (f p) ≡ padded 32 (map f (l ++ (p ∷ [])))
snoc f l p n xs c h e = rw (map-append f l (p ∷ []), e) (filled_next 32 0 (map f l) (f p) (length-map l f ∙ sym c) h)

module _ (m : Matrix) (ur₀ uc₀ : List Bool) where
  pub held_next : {n : ℕ} {ur uc : List Bool} {rs cs : List ℕ} (i j : ℕ) → n < m.rows → m.rows ≤ 32 → next_pick m ur uc ≡ Some (i, j)
      → Held m ur₀ uc₀ n ur uc rs cs → Held m ur₀ uc₀ (n + 1) (set ur i true) (set uc j true) (set rs n i) (set cs n j)
  held_next {n} {ur} {uc} {rs} {cs} i j h few e held =
      let l = held.done in
      let turn : m.rows - n ≡ suc (m.rows - (n + 1)) = omega arith in
      record {
        done = l ++ (pick i j ∷ []);
        count = omega (arith, held.count, length_snoc l (pick i j));
        at_rows = snoc (λ p. p.row) l (pick i j) n rs held.count (omega arith) held.at_rows;
        at_cols = snoc (λ p. p.col) l (pick i j) n cs held.count (omega arith) held.at_cols;
        rest =
            held.rest
            ∙ ap (λ (k : ℕ). l ++ greedy m k ur uc) turn
            ∙ ap (λ (r : List Pick). l ++ r) (greedy-picks m (m.rows - (n + 1)) ur uc i j e)
            ∙ sym (append_assoc l (pick i j ∷ []) (greedy m (m.rows - (n + 1)) (set ur i true) (set uc j true)));
      }

  pub held_last : {n : ℕ} {ur uc : List Bool} (p : Picks) → p.count ≡ n → greedy m (m.rows - n) ur uc ≡ [] → Held m ur₀ uc₀ n ur uc p.rows p.cols
      → p ≡ picks_of (picks m ur₀ uc₀)
  held_last {n} {ur} {uc} p k e held =
      let all : picks m ur₀ uc₀ ≡ held.done = held.rest ∙ ap (λ (r : List Pick). held.done ++ r) e ∙ append-nil held.done in
      rw (all, k, held.count, held.at_rows, held.at_cols)
