-- Rules 32, 45, 46 and 61: the counters and the permanent ID of a record.
use Rattle.std.specs.Prelude.{Bool, true, false, cond, ◌&&◌, ℕ, zero, suc, ◌+◌, ◌*◌, ℤ, pos, negsuc, ◌+ℤ◌, ◌-ℤ◌, Option, Some, None}
use Rattle.std.specs.Int.Signed.{le_z, lt_z}
use Rattle.parts.specs.declared.Life.{Life}

abbrev pub smaller_of : ℤ → ℤ → ℤ
smaller_of a b = cond (lt_z a b) a b

abbrev pub is_zero : ℤ → Bool
is_zero (pos zero) = true
is_zero (pos (suc n)) = false
is_zero (negsuc n) = false

-- ---- predict

-- an absent ReID counter becomes the maximum (or stays absent without one) if the hit counter is at most 0
abbrev pub reid_started : ℤ → Option ℤ → Option ℤ
reid_started h maximum = cond (le_z h (pos 0)) maximum None

-- a present one falls by 1
abbrev pub reid_predicted : Option ℤ → ℤ → Option ℤ → Option ℤ
reid_predicted None h maximum = reid_started h maximum
reid_predicted (Some c) h maximum = Some (c -ℤ pos 1)

-- age up 1, hit counter down 1
abbrev pub aged : Life → Option ℤ → Life
aged l counter =
    record {
      age = l.age + 1;
      hit_counter = l.hit_counter -ℤ pos 1;
      reid_hit_counter = counter;
      is_initializing = l.is_initializing;
      id = l.id;
    }

unfoldable pub life_predicted : Option ℤ → Life → Life
life_predicted maximum l = aged l (reid_predicted l.reid_hit_counter l.hit_counter maximum)

-- ---- hit

-- the smaller of the hit counter plus twice the period and the maximum
abbrev pub raised : ℕ → ℤ → Life → ℤ
raised period maximum l = smaller_of (l.hit_counter +ℤ pos (2 * period)) maximum

-- an initializing record whose counter now exceeds the delay gets the next permanent ID
abbrev pub promotes : ℕ → ℤ → ℤ → Life → Bool
promotes period maximum delay l = l.is_initializing && lt_z delay (raised period maximum l)

-- the ReID counter becomes absent if a maximum is set
abbrev pub reid_cleared : Option ℤ → Option ℤ → Option ℤ
reid_cleared counter None = counter
reid_cleared counter (Some m) = None

abbrev pub promoted : ℤ → Option ℤ → ℕ → Life → Life
promoted h reid_max next l =
    record {
      age = l.age;
      hit_counter = h;
      reid_hit_counter = reid_cleared l.reid_hit_counter reid_max;
      is_initializing = false;
      id = Some next;
    }

abbrev pub raised_only : ℤ → Life → Life
raised_only h l =
    record {
      age = l.age;
      hit_counter = h;
      reid_hit_counter = l.reid_hit_counter;
      is_initializing = l.is_initializing;
      id = l.id;
    }

unfoldable pub life_hit : ℕ → ℤ → ℤ → Option ℤ → ℕ → Life → Life
life_hit period maximum delay reid_max next l =
    cond (promotes period maximum delay l) (promoted (raised period maximum l) reid_max next l) (raised_only (raised period maximum l) l)

-- ---- open

-- age 0, hit counter the period, uncapped; with delay 0 a permanent ID at once
unfoldable pub life_opened : ℕ → ℤ → ℕ → Life
life_opened period delay next =
    record {
      age = 0;
      hit_counter = pos period;
      reid_hit_counter = None;
      is_initializing = cond (is_zero delay) false true;
      id = cond (is_zero delay) (Some next) None;
    }

-- ---- merge

-- ReID counter absent; hit counter twice its own initial period, uncapped
abbrev pub life_merged : ℕ → Life → Life
life_merged initial_period l =
    record {
      age = l.age;
      hit_counter = pos (2 * initial_period);
      reid_hit_counter = None;
      is_initializing = l.is_initializing;
      id = l.id;
    }
