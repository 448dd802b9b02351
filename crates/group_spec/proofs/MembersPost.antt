-- A group post that is accepted puts an edit into the queue of one station and leaves the others;
-- one that is refused leaves the group. So a group inside its limits stays so.
use Prim.Native.Nat.{ℕ, ◌<◌}
use mathlib.Core.Bool.{Bool, true, false, cond, not, false≢true}
use mathlib.Core.List.{List}
use mathlib.Core.Path.{◌≡◌, refl, sym, ap, subst, ◌∙◌}
use native.Mathlib.Decide.{ℕ_discrete}
use native.Mathlib.Omega.{arith}
use lib.Dec.{eqb, ltb}
use lib.ListN.{length-set}
use lib.Seq.{get_or-set_same, get_or-set_other}
use borrow.Author.Tests.{ltb-true}
use Rattle.bodies.specs.Limits.{postable, on_channel, may_wait}
use Rattle.bodies.specs.Refusals.{done}
use Rattle.lists.proofs.Keeps.{set_keeps}
use Rattle.queues.specs.Waiting.{is_desk, has_room}
use Rattle.station_spec.proofs.BodyLaws.{post_allowed}
use Rattle.station_spec.specs.Limits.{allowed}
use Rattle.station_spec.specs.declared.Station.{Station}
use Rattle.station_spec.specs.Calls.{posted}
use Rattle.station_spec.proofs.Setters.{Shaped}
use Rattle.station_spec.proofs.Shape.{posted_same, posted-shaped}
use Rattle.station_spec.proofs.LimitsFresh.{posted_holds}
use Rattle.group_spec.specs.declared.Post.{Post}
use Rattle.group_spec.specs.State.{no_station, station_at, size_of, group_inside}
use Rattle.group_spec.specs.Calls.{group_post_refusal, after_post, group_post_call}
use Rattle.group_spec.specs.Inner.Shape.{GroupShaped}
use Rattle.group_spec.proofs.Members.{Member, Members, members_open, members_inside}

-- what an accepted post shows
pub record Accepted (g : List Station) (x : Post) : Type 0 where
  pub inside : group_inside g ≡ true
  pub below : x.station < size_of g
  pub desk : is_desk x.desk ≡ true
  pub edit : postable x.body ≡ true
  pub channel : on_channel (station_at g x.station).edition x.body ≡ true
  pub room : has_room (station_at g x.station).waiting x.desk ≡ true

pub accepted : (g : List Station) (x : Post) → eqb (group_post_refusal g x) done ≡ true → Accepted g x
unfolding group_post_refusal
accepted g x h =
    go (group_inside g) (ltb x.station (size_of g)) (is_desk x.desk) (postable x.body) (on_channel (station_at g x.station).edition x.body)
    (has_room (station_at g x.station).waiting x.desk) refl refl refl refl refl refl h
  where
    go :
        (a c k d f e : Bool) → group_inside g ≡ a → ltb x.station (size_of g) ≡ c → is_desk x.desk ≡ k → postable x.body ≡ d →
        on_channel (station_at g x.station).edition x.body ≡ f → has_room (station_at g x.station).waiting x.desk ≡ e →
        eqb (cond (not a) 2 (cond (not c) 1 (cond (not k) 15 (cond (not d) 4 (cond (not f) 17 (cond (not e) 3 0)))))) 0 ≡ true → Accepted g x
    go true true true true true true p q t r o s z =
        record { inside = p; below = ltb-true x.station (size_of g) q; desk = t; edit = r; channel = o; room = s }
    go true true true true true false p q t r o s z = absurd (false≢true z)
    go true true true true false e p q t r o s z = absurd (false≢true z)
    go true true true false f e p q t r o s z = absurd (false≢true z)
    go true true false d f e p q t r o s z = absurd (false≢true z)
    go true false k d f e p q t r o s z = absurd (false≢true z)
    go false c k d f e p q t r o s z = absurd (false≢true z)

pub post_accepted :
    (g : List Station) (x : Post) → eqb (group_post_call g x).refusal done ≡ true →
    (group_post_call g x).group ≡ after_post g x
unfolding group_post_call
post_accepted g x e = rw e

pub post_refused : (g : List Station) (x : Post) → eqb (group_post_call g x).refusal done ≡ false → (group_post_call g x).group ≡ g
unfolding group_post_call
post_refused g x e = rw e

pub post_refusal : (g : List Station) (x : Post) → (group_post_call g x).refusal ≡ group_post_refusal g x
unfolding group_post_call
post_refusal g x = refl

module _ (n : ℕ) (g : List Station) (c : Members n g) (x : Post) where
  module _ (below : x.station < n) where
    pub posted_at : station_at (after_post g x) x.station ≡ posted (station_at g x.station) x.desk x.body
    posted_at = get_or-set_same g x.station (posted (station_at g x.station) x.desk x.body) no_station (rw c.shape.places (omega (arith, c.high)))

    pub posted_other : (j : ℕ) → (j ≡ x.station → ⊥) → station_at (after_post g x) j ≡ station_at g j
    posted_other j ne = get_or-set_other g x.station j (posted (station_at g x.station) x.desk x.body) no_station ne

    -- each keeps its edition
    pub posted_edition : (j : ℕ) → (station_at (after_post g x) j).edition ≡ (station_at g j).edition
    posted_edition j =
        elim (ℕ_discrete j x.station) [
          | yes same ↦ subst (λ (i : ℕ). (station_at (after_post g x) i).edition ≡ (station_at g i).edition) (sym same) here
          | no ne ↦ ap (λ (s : Station). s.edition) (posted_other j ne)
        ]
      where
        here : (station_at (after_post g x) x.station).edition ≡ (station_at g x.station).edition
        here = rw posted_at (sym (posted_same (station_at g x.station) x.desk x.body).edition)

    posted_member :
        may_wait (allowed (station_at g x.station)) x.body ≡ true → has_room (station_at g x.station).waiting x.desk ≡ true → (j : ℕ) → j < n → Member n (after_post g x) j
    posted_member edit room j l =
        elim (ℕ_discrete j x.station) [
          | yes same ↦ subst (Member n (after_post g x)) (sym same) here
          | no ne ↦
              let m = c.member j l in
              record {
                inside = rw (posted_other j ne) m.inside;
                size = rw (posted_other j ne) m.size;
                edition = posted_edition j ∙ m.edition ∙ sym (posted_edition 0);
                own = rw (posted_other j ne) m.own;
              }
        ]
      where
        here : Member n (after_post g x) x.station
        here =
            let m = c.member x.station below in
            record {
              inside =
                  rw posted_at (posted_holds (station_at g x.station) x.desk x.body (c.shape.stations x.station (omega (arith, c.high))) m.inside edit room);
              size = rw posted_at (sym (posted_same (station_at g x.station) x.desk x.body).n ∙ m.size);
              edition = posted_edition x.station ∙ m.edition ∙ sym (posted_edition 0);
              own = rw posted_at (sym (posted_same (station_at g x.station) x.desk x.body).own ∙ m.own);
            }

    set_members :
        may_wait (allowed (station_at g x.station)) x.body ≡ true → has_room (station_at g x.station).waiting x.desk ≡ true → Members n (after_post g x)
    set_members edit room =
        record {
          low = c.low;
          high = c.high;
          size = (posted_member edit room 0 c.low).size;
          shape =
              record {
                places = length-set g x.station (posted (station_at g x.station) x.desk x.body) ∙ c.shape.places;
                stations =
                    λ j l. set_keeps Shaped g x.station (posted (station_at g x.station) x.desk x.body) no_station j (rw c.shape.places l) (c.shape.stations j l)
                    (posted-shaped (station_at g x.station) x.desk x.body (c.shape.stations x.station (omega (arith, c.high))));
              };
          member = posted_member edit room;
        }

  pub post_members : Members n (group_post_call g x).group
  post_members = go (eqb (group_post_call g x).refusal done) refl
    where
      go : (t : Bool) → eqb (group_post_call g x).refusal done ≡ t → Members n (group_post_call g x).group
      go true e =
          let a : Accepted g x = accepted g x (rw (post_refusal g x) at e) in
          rw (post_accepted g x e) (set_members (omega (arith, a.below, c.size)) (post_allowed (station_at g x.station) x.body a.edit a.channel) a.room)
      go false e = rw (post_refused g x e) c

pub post_inside :
    (g : List Station) (x : Post) → GroupShaped g → group_inside g ≡ true → group_inside (group_post_call g x).group ≡ true
post_inside g x shape h =
    members_inside (size_of g) (group_post_call g x).group (post_members (size_of g) g (members_open g shape h) x)
