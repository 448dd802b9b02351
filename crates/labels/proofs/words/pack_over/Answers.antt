-- `labels::words::pack_over` meets its contract. The loop goes down: its word is that of the labels
-- from i to n over what is left of the old word, and each turn puts one more label below them.
use Prim.Native.Nat.{ℕ, ◌+◌, ◌-◌, ◌*◌, ◌^◌, ◌<◌, ◌≤◌}
use native.Mathlib.Omega.{arith}
use mathlib.Core.List.{List}
use mathlib.Core.Path.{◌≡◌, ap, ◌∙◌}
use lib.ListN.{get_or}
use Rattle.labels.proofs.Made.{word_from, word_first, word_last, word_step, word_fits}
use Rattle.labels.proofs.words.pack_over.Goals as goal

-- the word after a turn fits
fits :
    (labels : List ℕ) (n old i word : ℕ) → old < 2 ^ 32 → n ≤ 16 → ((k : ℕ) → k < n → get_or labels k 0 < 4) →
    0 < i → i ≤ n → word ≡ word_from labels n old i → word * 4 + get_or labels (i - 1) 0 < 2 ^ 32
fits labels n old i word o few small some below is =
    rw (is, word_step labels n old i some below) (word_fits labels n old few o small (i - 1) (omega arith))

pub loop-i-init : goal.loop-i-init
loop-i-init c = word_first c.args.labels c.args.n c.args.old

pub loop-i-preserved : goal.loop-i-preserved
loop-i-preserved c =
    let l = c.loop-i in
    ap (λ (w : ℕ). w * 4 + get_or c.args.labels (l.i - 1) 0) l.invariant
    ∙ word_step c.args.labels c.args.n c.args.old l.i (omega arith) (omega arith)

pub returns : goal.returns
returns c =
    let none : c.loop-i.i ≡ 0 = omega arith in
    (rw none at c.loop-i.invariant) ∙ word_last c.args.labels c.args.n c.args.old

pub overflow_mul-word-in-loop-i : goal.overflow_mul-word-in-loop-i
overflow_mul-word-in-loop-i c =
    let a = c.args in
    omega (arith, fits a.labels a.n a.old c.loop-i.i c.loop-i.word (omega arith) (omega arith) c.requires.labels (omega arith) (omega arith) c.loop-i.invariant)

pub overflow_add-word : goal.overflow_add-word
overflow_add-word c =
    let a = c.args in
    omega (arith, fits a.labels a.n a.old c.loop-i.i c.loop-i.word (omega arith) (omega arith) c.requires.labels (omega arith) (omega arith) c.loop-i.invariant)
