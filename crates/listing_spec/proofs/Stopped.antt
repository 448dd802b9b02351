-- A reading that has stopped prints no more, whatever lines follow.
use mathlib.Core.Path.{◌≡◌, ◌∙◌}
use mathlib.Core.Bool.{Bool, true, cond, ◌&&◌, ◌||◌}
use mathlib.Core.List.{List, [], ◌++◌}
use Prim.Native.Nat.{ℕ}
use lib.Dec.{ltb, eqb}
use lib.ListN.{length}
use Rattle.listing_spec.specs.declared.Session.{Session}
use Rattle.listing_spec.specs.Listing.{Lines, rest, line, malformed_text, after, printed, rest_text, listed}

pub stopped_silent : (s : Session) (ls : Lines) → s.stopped ≡ true → listed s ls ≡ []
unfolding listed printed after rest_text
stopped_silent s (rest l) e = go s.stopped e
  where
    go : (t : Bool) → t ≡ true → cond (t || (ltb 0 s.n && eqb (length l) 0)) [] (malformed_text s) ≡ []
    go t e = rw e
stopped_silent s (line l ls) e = go s.stopped _ _ e ∙ stopped_silent s ls e
  where
    go :
        (t : Bool) (s' : Session) (text : List ℕ) → t ≡ true → cond t [] text ++ listed (cond t s s') ls ≡ listed s ls
    go t s' text e = rw e
