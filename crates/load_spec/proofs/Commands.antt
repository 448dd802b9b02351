-- What the three kinds of lines say: each field is the number that was written, and each number is
-- inside its limits, for a draw is at most 65,535.
use mathlib.Core.Path.{◌≡◌, refl}
use mathlib.Core.Bool.{true, false}
use mathlib.Core.List.{List, [], ◌∷◌}
use Prim.Native.Nat.{ℕ, ◌+◌, ◌*◌, ◌≤◌, ◌<◌}
use native.Mathlib.Omega.{arith}
use lib.IntN.{pos}
use lib.ListN.{length, get_or}
use borrow.Author.Tests.{eq-eqb, ne_eqb, lt-ltb, le-leb}
use Rattle.lists.specs.Below.{tabulate}
use Rattle.lists.proofs.Laws.{all_below_make, length-tabulate, tabulate_at}
use Rattle.columns.specs.declared.reader.Reading.{Reading}
use Rattle.columns.specs.declared.reader.Reading.TheVariants.{Number}
use Rattle.script.specs.declared.Command.TheVariants.{Size, Post, Round}
use Rattle.script.specs.Line.{field_of, shaped, size_line as read_size, post_shaped, post_line as read_post, is_mask, masks_inside, round_line, command_of}
use Rattle.load_spec.specs.Draws.{mask_draw}
use Rattle.load_spec.proofs.Draws.{mask_draw_small}
use Rattle.load_spec.specs.Script.{line_of, size_line, post_line, mask_line}
use Rattle.load_spec.proofs.Fields.{length_numbers, first_letter, field_read}

-- a line of this letter and so many numbers
is_shaped : (letter n : ℕ) (numbers : List ℕ) → length numbers ≡ n → shaped (line_of letter numbers) letter n ≡ true
is_shaped letter n numbers e =
    rw (eq-eqb (length (line_of letter numbers)) (9 * n + 1) (omega (arith, length_numbers letter numbers)), first_letter letter numbers)
    (eq-eqb letter letter refl)

pub size_said : (n : ℕ) → 1 ≤ n → n ≤ 16 → command_of 0 (size_line n) ≡ Size n
unfolding command_of read_size size_line
size_said n l h =
    let field = field_read 78 (n ∷ []) 0 (omega arith) (omega arith) (omega arith) in
    rw (is_shaped 78 1 (n ∷ []) refl, field, le-leb 1 n l, le-leb n 16 h)

module _ (n p d : ℕ) (some : 1 ≤ n) (station : p < 16) (small : d ≤ 65535) where
  abbrev numbers : List ℕ
  numbers = p ∷ 2 ∷ (d + 1) ∷ d ∷ []

  pub post_said : command_of n (post_line p d) ≡ Post p 2 (d + 1) (pos d)
  unfolding command_of read_post post_shaped post_line line_of
  post_said =
      let zeroth = field_read 80 numbers 0 (omega arith) (omega arith) (omega arith) in
      let first = field_read 80 numbers 1 (omega arith) (omega arith) (omega arith) in
      let second = field_read 80 numbers 2 (omega arith) (omega arith) (omega arith) in
      let third = field_read 80 numbers 3 (omega arith) (omega arith) (omega arith) in
      rw (
        ne_eqb n 0 (λ e. absurd (omega arith)),
        first_letter 80 numbers,
        is_shaped 80 4 numbers refl,
        zeroth,
        first,
        second,
        third,
        lt-ltb p 1_000_000_000 (omega arith),
        lt-ltb (d + 1) 1_000_000_000 (omega arith),
      )

mask_is : (r : Reading) (v : ℕ) → r ≡ Number false v → v ≤ 65535 → is_mask r ≡ true
unfolding is_mask
mask_is r v e h = rw (e, le-leb v 65535 h)

masks_inside_lem : (s n : ℕ) → n ≤ 16 → masks_inside (line_of 82 (tabulate n (mask_draw s))) n ≡ true
unfolding masks_inside
masks_inside_lem s n h =
    let masks = tabulate n (mask_draw s) in
    let size : length masks ≡ n = length-tabulate n (mask_draw s) in
    all_below_make n (λ k. is_mask (field_of (line_of 82 masks) k))
    (λ k l.
    let same : get_or masks k 0 ≡ mask_draw s k = tabulate_at n (mask_draw s) k 0 l in
    let small : get_or masks k 0 ≤ 65535 = omega (arith, mask_draw_small s k) in
    mask_is (field_of (line_of 82 masks) k) (get_or masks k 0) (field_read 82 masks k (omega arith) (omega arith) (omega arith)) small)

pub round_said : (s n : ℕ) → 1 ≤ n → n ≤ 16 → command_of n (mask_line s n) ≡ Round
unfolding command_of round_line mask_line line_of
round_said s n l h =
    let masks = tabulate n (mask_draw s) in
    rw (
      ne_eqb n 0 (λ e. absurd (omega arith)),
      first_letter 82 masks,
      is_shaped 82 n masks (length-tabulate n (mask_draw s)),
      masks_inside_lem s n h,
    )
