-- Bytes taken into the line that is held, by recursion on them: one is kept, or lost where the line
-- is too long already.
use mathlib.Core.Path.{◌≡◌, refl, sym, ◌∙◌}
use mathlib.Core.Bool.{Bool, true, false}
use mathlib.Core.List.{List, [], ◌∷◌, ◌++◌, append_assoc, append-nil}
use Prim.Native.Nat.{ℕ, suc, ◌+◌, ◌-◌, ◌≤◌, ◌<◌}
use native.Mathlib.Omega.{arith}
use lib.Dec.{leb}
use lib.ListN.{length, take, drop, get_or, length-append, length-take}
use lib.Seq.{length-take-le, take_all, take_at}
use borrow.Author.Tests.{leb-true, leb-false}
use Rattle.std.proofs.lemmas.List.{get_or-take, take-take}
use Rattle.listing_spec.specs.Remaining.{Same}
use Rattle.listing_spec.proofs.Steps.{joins, drops}

same_none : (held : List ℕ) → Same held [] held
same_none held = record { same = λ s more. refl }

-- a run of bytes without a line end, of which as many are kept as there is room for
run :
    (bytes held : List ℕ) → ((k : ℕ) → k < length bytes → get_or bytes k 0 ≡ 10 → ⊥) →
    Same held bytes (held ++ take (146 - length held) bytes)
run [] held n = rw (take_all {A = ℕ} (146 - length held) [] (omega arith), append-nil) (same_none held)
run (b ∷ bytes) held n = go (leb 146 (length held)) refl (run bytes held later) (run bytes (held ++ (b ∷ [])) later)
  where
    first : b ≡ 10 → ⊥
    first e = n 0 (omega arith) e

    later : (k : ℕ) → k < length bytes → get_or bytes k 0 ≡ 10 → ⊥
    later k h e = n (suc k) (omega arith) e

    go :
        (t : Bool) → leb 146 (length held) ≡ t → Same held bytes (held ++ take (146 - length held) bytes) →
        Same (held ++ (b ∷ [])) bytes ((held ++ (b ∷ [])) ++ take (146 - length (held ++ (b ∷ []))) bytes) →
        Same held (b ∷ bytes) (held ++ take (146 - length held) (b ∷ bytes))
    go true e p q =
        let full = leb-true 146 (length held) e in
        let none : 146 - length held ≡ 0 = omega arith in
        let rest = rw (none, append-nil) at p in
        rw (none, append-nil) (record { same = λ s more. drops s held b (bytes ++ more) first (omega arith) ∙ rest.same s more })
    go false e p q =
        let room = leb-false 146 (length held) e in
        let size : length (held ++ (b ∷ [])) ≡ length held + 1 = length-append held (b ∷ []) in
        let one : 146 - length held ≡ suc (146 - length (held ++ (b ∷ []))) = omega arith in
        let rest = rw append_assoc at q in
        rw one (record { same = λ s more. joins s held b (bytes ++ more) first ∙ rest.same s more })

-- the same of a part of the line, into which the kept bytes are copied
pub takes :
    (line rest text : List ℕ) (held read kept : ℕ) → held ≤ 146 → 146 ≡ length line → read ≤ length rest → kept ≤ read →
    held + kept ≤ 146 → (kept < read → held + kept ≡ 146) → ((k : ℕ) → k < read → get_or rest k 0 ≡ 10 → ⊥) → text ≡ take kept rest →
    Same (take held line) (take read rest) (take (held + kept) (take held line ++ (text ++ drop kept (drop held line))))
takes line rest text held read kept h l r f room full n e =
    let size : length (take held line) ≡ held = length-take-le held line (omega arith) in
    let got : length (take kept rest) ≡ kept = length-take-le kept rest (omega arith) in
    let long : length (take held line ++ take kept rest) ≡ held + kept = length-append (take held line) (take kept rest) ∙ omega arith in
    let inner : (k : ℕ) → k < length (take read rest) → get_or (take read rest) k 0 ≡ 10 → ⊥ = λ k b q.
    let few : k < read = omega (arith, length-take-le read rest r) in n k few (sym (get_or-take read rest k 0 few) ∙ q) in
    let front : take (146 - length (take held line)) (take read rest) ≡ take kept rest = kept_front rest read kept (146 - length (take held line)) f (omega arith) (λ k. omega arith) in
    rw (e, ← append_assoc, take_at (take held line ++ take kept rest) (drop kept (drop held line)) (held + kept) long, ← front) (run (take read rest) (take held line) inner)
  where
    kept_front : (rest : List ℕ) (read kept room : ℕ) → kept ≤ read → kept ≤ room → (kept < read → kept ≡ room) → take room (take read rest) ≡ take kept rest
    kept_front rest read kept room f g w = go (leb read kept) refl
      where
        go : (t : Bool) → leb read kept ≡ t → take room (take read rest) ≡ take kept rest
        go true e =
            let all : read ≡ kept = omega (arith, leb-true read kept e) in
            rw all (take_all room (take kept rest) (omega (arith, length-take kept rest)))
        go false e =
            let k : kept ≡ room = w (leb-false read kept e) in
            rw k (take-take room read rest (omega arith))
