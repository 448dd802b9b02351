-- The columns of a listing line, one text put behind the other.
use mathlib.Core.Path.{◌≡◌, ◌∙◌}
use mathlib.Core.Bool.{false}
use mathlib.Core.List.{List, [], ◌∷◌, ◌++◌}
use Prim.Native.Nat.{ℕ, ◌+◌, ◌-◌, ◌≤◌}
use native.Mathlib.Omega.{arith}
use lib.IntN.{ℤ, pos, nat_abs}
use lib.Signed.{lt_z}
use lib.ListN.{length, length-append}
use Rattle.bodies.specs.declared.Body.{Body}
use Rattle.bodies.specs.Body.{kind_of, event_of, argument_of}
use Rattle.columns.specs.Writing.{nat_columns, int_columns}
use Rattle.columns.proofs.Fields.{length-columns}
use Rattle.listing_lines.specs.Lines.{head_bytes, body_bytes, line_bytes, line_length, placed}
use Rattle.listing_lines.proofs.Placed.{placed_then}

pub head_made :
    (l₀ l₁ l₂ l₃ l₄ l₅ : List ℕ) (at round letter station source : ℕ) → at ≤ length l₀ →
    l₁ ≡ placed l₀ at (nat_columns (at + 6 - at) round) →
    l₂ ≡ placed l₁ (at + 6) (32 ∷ []) →
    l₃ ≡ placed l₂ (at + 7) (letter ∷ []) →
    l₄ ≡ placed l₃ (at + 8) (nat_columns (at + 11 - (at + 8)) station) →
    l₅ ≡ placed l₄ (at + 11) (nat_columns (at + 14 - (at + 11)) source) →
    l₅ ≡ placed l₀ at (head_bytes round letter station source)
unfolding head_bytes
head_made l₀ l₁ l₂ l₃ l₄ l₅ at round letter station source h e₁ e₂ e₃ e₄ e₅ =
    let w₁ : at + 6 - at ≡ 6 = omega arith in
    let w₄ : at + 11 - (at + 8) ≡ 3 = omega arith in
    let w₅ : at + 14 - (at + 11) ≡ 3 = omega arith in
    let t₁ = nat_columns 6 round in
    let t₂ = t₁ ++ (32 ∷ []) in
    let t₃ = t₂ ++ (letter ∷ []) in
    let t₄ = t₃ ++ nat_columns 3 station in
    let s₁ : length t₁ ≡ 6 = length-columns false 6 round in
    let s₂ : length t₂ ≡ 7 = length-append t₁ (32 ∷ []) ∙ omega arith in
    let s₃ : length t₃ ≡ 8 = length-append t₂ (letter ∷ []) ∙ omega arith in
    let s₄ : length t₄ ≡ 11 = length-append t₃ (nat_columns 3 station) ∙ omega (arith, length-columns false 3 station) in
    let p₁ : l₁ ≡ placed l₀ at t₁ = rw w₁ at e₁ in
    let p₂ : l₂ ≡ placed l₀ at t₂ = placed_then l₀ l₁ l₂ at (at + 6) t₁ (32 ∷ []) h (omega arith) p₁ e₂ in
    let p₃ : l₃ ≡ placed l₀ at t₃ = placed_then l₀ l₂ l₃ at (at + 7) t₂ (letter ∷ []) h (omega arith) p₂ e₃ in
    let p₄ : l₄ ≡ placed l₀ at t₄ = placed_then l₀ l₃ l₄ at (at + 8) t₃ (nat_columns 3 station) h (omega arith) p₃ (rw w₄ at e₄) in
    placed_then l₀ l₄ l₅ at (at + 11) t₄ (nat_columns 3 source) h (omega arith) p₄ (rw w₅ at e₅)

pub body_made :
    (l₀ l₁ l₂ l₃ l₄ : List ℕ) (at : ℕ) (body : Body) (kind event : ℕ) (argument : ℤ) → at ≤ length l₀ →
    kind ≡ kind_of body → event ≡ event_of body → argument ≡ argument_of body →
    l₁ ≡ placed l₀ at (nat_columns (at + 2 - at) kind) →
    l₂ ≡ placed l₁ (at + 2) (nat_columns (at + 11 - (at + 2)) event) →
    l₃ ≡ placed l₂ (at + 11) (int_columns (at + 20 - (at + 11)) argument) →
    l₄ ≡ placed l₃ (at + 20) (10 ∷ []) →
    l₄ ≡ placed l₀ at (body_bytes body)
unfolding body_bytes
body_made l₀ l₁ l₂ l₃ l₄ at body kind event argument h k e a e₁ e₂ e₃ e₄ =
    let w₁ : at + 2 - at ≡ 2 = omega arith in
    let w₂ : at + 11 - (at + 2) ≡ 9 = omega arith in
    let w₃ : at + 20 - (at + 11) ≡ 9 = omega arith in
    let t₁ = nat_columns 2 (kind_of body) in
    let t₂ = t₁ ++ nat_columns 9 (event_of body) in
    let t₃ = t₂ ++ int_columns 9 (argument_of body) in
    let s₁ : length t₁ ≡ 2 = length-columns false 2 (kind_of body) in
    let s₂ : length t₂ ≡ 11 = length-append t₁ (nat_columns 9 (event_of body)) ∙ omega (arith, length-columns false 9 (event_of body)) in
    let s₃ : length t₃ ≡ 20 = length-append t₂ (int_columns 9 (argument_of body)) ∙ omega (arith, length-columns (lt_z (argument_of body) (pos 0)) 9 (nat_abs (argument_of body))) in
    let p₁ : l₁ ≡ placed l₀ at t₁ = rw (w₁, k) at e₁ in
    let p₂ : l₂ ≡ placed l₀ at t₂ = placed_then l₀ l₁ l₂ at (at + 2) t₁ (nat_columns 9 (event_of body)) h (omega arith) p₁ (rw (w₂, e) at e₂) in
    let p₃ : l₃ ≡ placed l₀ at t₃ = placed_then l₀ l₂ l₃ at (at + 11) t₂ (int_columns 9 (argument_of body)) h (omega arith) p₂ (rw (w₃, a) at e₃) in
    placed_then l₀ l₃ l₄ at (at + 20) t₃ (10 ∷ []) h (omega arith) p₃ e₄

pub length_head : (round letter station source : ℕ) → length (head_bytes round letter station source) ≡ 14
unfolding head_bytes
length_head round letter station source = simp (length-append, length-columns)

pub length-body : (body : Body) → length (body_bytes body) ≡ 21
unfolding body_bytes
length-body body = simp (length-append, length-columns)

pub length_line : (round letter station source : ℕ) (body : Body) → length (line_bytes round letter station source body) ≡ line_length
unfolding line_bytes
length_line round letter station source body = simp (length-append, length_head, length-body)
