-- Document 02, A12: who holds which bulletin, the limits of a state, and the fresh state.
use Rattle.std.specs.Prelude.{ℕ, ◌+◌, ◌*◌, ◌/◌, Bool, not, ◌&&◌, ◌||◌, nat_le, nat_lt, ◌==◌, slice_index, replicate}
use Rattle.bodies.specs.Limits.{limits_of}
use Rattle.links.specs.Log.{bit}
use Rattle.lists.specs.Below.{all_below}
use Rattle.bulletins_spec.specs.declared.Bulletins.{Bulletins}
use Rattle.bulletins_spec.specs.declared.Notice.{Notice}

-- how many bulletins an issuer may issue, each at a place of its own; and the places of all sixteen
abbrev pub quota : ℕ
quota = 4

abbrev pub all_places : ℕ
all_places = quota * 16

-- the issuer whose place s is
abbrev pub issuer_of : ℕ → ℕ
issuer_of s = s / quota

-- the set of station p, and whether p holds the bulletin at place s
abbrev pub set_of : Bulletins → ℕ → ℕ
set_of B p = slice_index B.held p

abbrev pub holds : Bulletins → ℕ → ℕ → Bool
holds B p s = bit (set_of B p) s

-- a bulletin stands at place s: its issuer holds it
abbrev pub stands : Bulletins → ℕ → Bool
stands B s = holds B (issuer_of s) s

abbrev pub tag_at : Bulletins → ℕ → ℕ
tag_at B s = slice_index B.tags s

abbrev pub event_at : Bulletins → ℕ → ℕ
event_at B s = slice_index B.events s

-- the bulletin at place s
abbrev pub notice_at : Bulletins → ℕ → Notice
notice_at B s = record { issuer = issuer_of s; tag = tag_at B s; event = event_at B s }

-- an event is inside the limits of kind 2
abbrev pub event_inside : ℕ → Bool
event_inside event = nat_le (limits_of 2).least_event event && nat_le event (limits_of 2).most_event

-- what p holds at place s has an issuer below N that holds it too
abbrev pub held_inside : Bulletins → ℕ → ℕ → Bool
held_inside B p s = not (holds B p s) || (nat_lt (issuer_of s) B.n && stands B s)

-- no bulletin at place r, unless r is s, has the tag of the one at s
abbrev pub other_tag : Bulletins → ℕ → ℕ → Bool
other_tag B s r = r == s || (not (stands B r) || not (tag_at B r == tag_at B s))

-- the bulletin at place s has an event inside its limits and a tag that no other of its issuer has
abbrev pub own_inside : Bulletins → ℕ → Bool
own_inside B s =
    not (stands B s) || (event_inside (event_at B s) && all_below quota (λ k. other_tag B s (quota * issuer_of s + k)))

-- the state is inside its limits. That a station holds a bulletin once, that the issuer's has the
-- same event, and that an issuer has at most four is so in every state of this form
unfoldable pub bulletins_inside : Bulletins → Bool
bulletins_inside B =
    (nat_le 1 B.n && nat_le B.n 16) &&
    (all_below B.n (λ p. all_below all_places (held_inside B p)) && all_below (quota * B.n) (own_inside B))

-- nobody holds anything
unfoldable pub fresh_bulletins : ℕ → Bulletins
fresh_bulletins n =
    record { n = n; tags = replicate all_places 0; events = replicate all_places 0; held = replicate 16 0 }
