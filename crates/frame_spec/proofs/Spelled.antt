-- Words and lists spelled out byte by byte: a word is its four bytes, a signed number its word, and
-- a list its entries.
use mathlib.Core.Path.{◌≡◌, refl, ap, ◌∙◌}
use mathlib.Core.Bool.{Bool, true, false}
use lib.Dec.{ltb}
use mathlib.Core.List.{List, [], ◌∷◌}
use Prim.Native.Nat.{ℕ, zero, suc, ◌+◌, ◌*◌, ◌-◌, ◌/◌, ◌%◌, ◌≤◌, ◌<◌}
use native.Mathlib.Omega.{arith}
use lib.IntN.{ℤ, pos, negsuc}
use lib.ListN.{get_or, drop, length, drop_of_length-le}
use lib.Seq.{drop-cons}
use borrow.Author.Tests.{lt-ltb, le-ltb}
use mir.Syntax.{w32}
use mir.Val.{SFits}
use Rattle.frame_spec.specs.Words.{word_bytes, signed, unsigned}

-- m entries of a list from place i on
unfoldable pub spelled : ℕ → ℕ → List ℕ → List ℕ
spelled zero i l = []
spelled (suc m) i l = get_or l i 0 ∷ spelled m (suc i) l

pub spelled_is : (m i : ℕ) (l : List ℕ) → length l ≡ i + m → drop i l ≡ spelled m i l
unfolding spelled
spelled_is zero i l h = drop_of_length-le l {i = i} (omega arith)
spelled_is (suc m) i l h =
    drop-cons l i 0 (omega arith) ∙ ap (λ (r : List ℕ). get_or l i 0 ∷ r) (spelled_is m (suc i) l (omega arith))

-- a word and its bytes
pub word_back : (b₀ b₁ b₂ b₃ : ℕ) → b₀ < 256 → b₁ < 256 → b₂ < 256 → b₃ < 256 →
    word_bytes (b₀ + 256 * b₁ + 65_536 * b₂ + 16_777_216 * b₃) ≡ b₀ ∷ b₁ ∷ b₂ ∷ b₃ ∷ []
unfolding word_bytes
word_back b₀ b₁ b₂ b₃ h₀ h₁ h₂ h₃ =
    let w = b₀ + 256 * b₁ + 65_536 * b₂ + 16_777_216 * b₃ in
    let q₁ : w / 256 ≡ b₁ + 256 * b₂ + 65_536 * b₃ = omega arith in
    let q₂ : w / 65_536 ≡ b₂ + 256 * b₃ = omega arith in
    let q₃ : w / 16_777_216 ≡ b₃ = omega arith in
    let e₀ : w % 256 ≡ b₀ = omega arith in
    let e₁ : (b₁ + 256 * b₂ + 65_536 * b₃) % 256 ≡ b₁ = omega arith in
    let e₂ : (b₂ + 256 * b₃) % 256 ≡ b₂ = omega arith in
    let e₃ : b₃ % 256 ≡ b₃ = omega arith in
    rw (q₁, q₂, q₃) (λ i. e₀ i ∷ e₁ i ∷ e₂ i ∷ e₃ i ∷ [])

pub bytes_back : (word : ℕ) → word < 4_294_967_296 →
    word % 256 + 256 * (word / 256 % 256) + 65_536 * (word / 65_536 % 256) + 16_777_216 * (word / 16_777_216 % 256) ≡ word
bytes_back word h =
    let d₂ : word / 65_536 ≡ word / 256 / 256 = omega arith in
    let d₃ : word / 16_777_216 ≡ word / 256 / 256 / 256 = omega arith in
    let last : word / 16_777_216 % 256 ≡ word / 16_777_216 = omega arith in
    rw (last, d₂, d₃) (omega arith)

-- a signed number and its word
pub signed_back : (z : ℤ) → SFits w32 z → signed (unsigned z) ≡ z
unfolding signed unsigned
signed_back (pos n) f = rw (lt-ltb n 2_147_483_648 f.sfits)
signed_back (negsuc n) f =
    let h : n < 2_147_483_648 = f.sfits in
    let high : 2_147_483_648 ≤ 4_294_967_295 - n = omega arith in
    let e : 4_294_967_295 - (4_294_967_295 - n) ≡ n = omega arith in
    rw (le-ltb (4_294_967_295 - n) 2_147_483_648 high, e)

pub unsigned_small : (z : ℤ) → SFits w32 z → unsigned z < 4_294_967_296
unfolding unsigned
unsigned_small (pos n) f = omega (arith, f.sfits)
unsigned_small (negsuc n) f = omega arith

pub unsigned_back : (word : ℕ) → word < 4_294_967_296 → unsigned (signed word) ≡ word
unfolding signed unsigned
unsigned_back word h = go (ltb word 2_147_483_648) refl
  where
    go : (t : Bool) → ltb word 2_147_483_648 ≡ t → unsigned (signed word) ≡ word
    go true e = rw e
    go false e = rw e (omega arith)
