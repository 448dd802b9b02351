-- What fresh accepts: N from 1 to 16, a limit of waiting edits from 1 to 32, and an edition of 0 or
-- 1.
use Prim.Native.Nat.{ℕ, ◌≤◌, ◌<◌}
use mathlib.Core.Bool.{Bool, true, false, not, cond, ◌&&◌}
use mathlib.Core.Path.{◌≡◌, refl}
use native.Mathlib.Omega.{arith}
use lib.Dec.{leb}
use borrow.Author.Tests.{leb-true, le-leb, ltb-true, lt-ltb}
use Rattle.bodies.specs.Refusals.{done}
use Rattle.bodies.specs.Limits.{is_edition}
use Rattle.queues.specs.Waiting.{limit_inside}
use Rattle.station_spec.specs.declared.Setup.{Setup}
use Rattle.station_spec.specs.State.{sized}
use Rattle.group_spec.specs.Calls.{group_fresh_refusal}

pub record Accepts (setup : Setup) : Type 0 where
  pub low : 1 ≤ setup.n
  pub high : setup.n ≤ 16
  pub limited : limit_inside setup.limit ≡ true
  pub known : setup.edition < 2

pub accepts : (setup : Setup) → group_fresh_refusal setup ≡ done → Accepts setup
unfolding group_fresh_refusal
accepts setup e =
    go (leb 1 setup.n) (leb setup.n 16) (limit_inside setup.limit) (is_edition setup.edition) refl refl refl refl e
  where
    go :
        (a b c d : Bool) → leb 1 setup.n ≡ a → leb setup.n 16 ≡ b → limit_inside setup.limit ≡ c → is_edition setup.edition ≡ d →
        ◌≡◌ {A = ℕ} (cond (not (a && b)) 1 (cond (not c) 13 (cond (not d) 17 0))) 0 → Accepts setup
    go true true true true p q r t z =
        record {
          low = leb-true 1 setup.n p;
          high = leb-true setup.n 16 q;
          limited = r;
          known = ltb-true setup.edition 2 t;
        }
    go true true true false p q r t z = absurd (omega arith)
    go true true false d p q r t z = absurd (omega arith)
    go true false c d p q r t z = absurd (omega arith)
    go false b c d p q r t z = absurd (omega arith)

pub accepted : (setup : Setup) → Accepts setup → group_fresh_refusal setup ≡ done
unfolding group_fresh_refusal
accepted setup ok =
    rw (
      le-leb 1 setup.n ok.low,
      le-leb setup.n 16 ok.high,
      ok.limited,
      lt-ltb setup.edition 2 ok.known,
    )

-- where neither a limit nor an edition is named
pub accepts-sized : (n : ℕ) → 1 ≤ n → n ≤ 16 → Accepts (sized n)
accepts-sized n low high = record { low = low; high = high; limited = refl; known = omega arith }
