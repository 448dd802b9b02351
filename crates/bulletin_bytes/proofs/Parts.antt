-- Parts of one width, one behind the other: the bytes of the parts of a list.
use Rattle.std.proofs.Common.{ℕ, zero, suc, ◌+◌, ◌*◌, ◌<◌, ◌≡◌, List, [], ◌∷◌, ◌++◌, flat_map, get_or, length, take, refl, sym, ap, ap₂, ◌∙◌, arith, append-nil, length-append}
use Rattle.std.proofs.Math.Seq.{take-suc, take_all}
use native.Mathlib.Numerals.{add-one}
use Rattle.std.proofs.Math.Nat.{mul-suc}
use Rattle.std.proofs.lemmas.Grind.{flat_map-append}
use Rattle.std.proofs.lemmas.List.Edits.{sets}
use Rattle.station_bytes_spec.specs.Bytes.{joined_below}
use Rattle.station_bytes_spec.proofs.Bytes.{writes_meet}

module _ {A : Type 0} (part : A → List ℕ) where
  one_more : (l : List A) (k : ℕ) (d : A) → k < length l → flat_map part (take (k + 1) l) ≡ flat_map part (take k l) ++ part (get_or l k d)
  one_more l k d h =
      ap (λ (m : ℕ). flat_map part (take m l)) (add-one k)
      ∙ ap (flat_map part) (take-suc l k d h)
      ∙ flat_map-append part (take k l) (get_or l k d ∷ [])
      ∙ ap (λ (y : List ℕ). flat_map part (take k l) ++ y) (append-nil (part (get_or l k d)))

  joined_front : (l : List A) (d : A) (k : ℕ) → k < suc (length l) → joined_below k (λ j. part (get_or l j d)) ≡ flat_map part (take k l)
  unfolding joined_below
  joined_front l d zero m = refl
  joined_front l d (suc k) m =
      ap (λ (x : List ℕ). x ++ part (get_or l k d)) (joined_front l d k (omega arith))
      ∙ sym (one_more l k d (omega arith))
      ∙ ap (λ (j : ℕ). flat_map part (take j l)) (add-one k)

  -- the parts of a list by their places
  pub joined_parts : (n : ℕ) (l : List A) (d : A) → length l ≡ n → flat_map part l ≡ joined_below n (λ k. part (get_or l k d))
  joined_parts n l d h = ap (flat_map part) (sym (take_all n l (omega (arith, h)))) ∙ sym (joined_front l d n (omega (arith, h)))

  -- the parts of the first k are put, and take so many bytes
  pub record PutBelow (w : ℕ) (b : List ℕ) (at : ℕ) (l : List A) (k : ℕ) (b₁ : List ℕ) : Type 0 where
    pub put : b₁ ≡ sets b at (flat_map part (take k l))
    pub wide : length (flat_map part (take k l)) ≡ w * k

  pub none_put : (w : ℕ) (b : List ℕ) (at : ℕ) (l : List A) → PutBelow w b at l 0 b
  none_put w b at l = record { put = refl; wide = omega arith }

  pub one_put : (w v : ℕ) (b : List ℕ) (at : ℕ) (l : List A) (k : ℕ) (b₁ b₂ : List ℕ) (x : A) → k < length l → PutBelow w b at l k b₁
      → x ≡ get_or l k x → v ≡ w → b₂ ≡ sets b₁ (at + v * k) (part x) → length (part x) ≡ w → PutBelow w b at l (k + 1) b₂
  one_put w v b at l k b₁ b₂ x h p is same f long =
      let more : flat_map part (take (k + 1) l) ≡ flat_map part (take k l) ++ part x =
      one_more l k x h ∙ ap (λ (y : A). flat_map part (take k l) ++ part y) (sym is) in
      record {
        put =
            f
            ∙ ap₂ (λ (y : List ℕ) (u : ℕ). sets y (at + u * k) (part x)) p.put same
            ∙ writes_meet (flat_map part (take k l)) b (part x) at (w * k) p.wide
            ∙ ap (sets b at) (sym more);
        wide =
            ap length more
            ∙ length-append (flat_map part (take k l)) (part x)
            ∙ ap₂ ◌+◌ p.wide long
            ∙ sym (ap (λ (m : ℕ). w * m) (add-one k) ∙ mul-suc w k);
      }
