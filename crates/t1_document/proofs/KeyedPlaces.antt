-- Places under their keys.
use Rattle.std.proofs.Common.{ℕ, Bool, true, false, cond, subst, List, [], ◌∷◌, length}
use Rattle.std.specs.{Prelude.{◌||◌}, List.{AllByRecursion}}
use Rattle.t1_bytes.specs.{White.{has_bytes}, Laws.{AreBytes}}
use Rattle.t1_text.{specs.Tags.{untagged}, proofs.{Bytes.{bytes_right}, TagLemmas.{ends_untagged}}}
use Rattle.t1_document.specs.{declared.pooling.Key.{Key}, declared.pooling.Key.TheVariants.{Name, Family}, Documents.{Place}, Rewriting.{is_seen}, Joins.{names_from}}
use Rattle.t1_document.specs.Pooling.{key_of, keyed, any_clashes, keys_of}
use Rattle.t1_document.proofs.{NewTextsDraw.{IsSound}, RegularNames.{IsRegular, IsNamed}, DefiningLines.{key_regular}}

-- a name in bytes has a key in bytes
key_bytes : (by : Key) (name : List ℕ) → AreBytes name → AreBytes (key_of by name)
key_bytes Name name h = h
key_bytes Family name h = by_any (has_bytes (untagged name))
  where
    bare : AreBytes (untagged name)
    bare = let s = ends_untagged (length name) name in bytes_right s.0 (untagged name) (subst AreBytes s.1 h)

    by_any : (b : Bool) → AreBytes (cond b (untagged name) name)
    by_any true = bare
    by_any false = h

-- places under their keys are sound, too
pub keyed_sound : (by : Key) (ps : List Place) → AllByRecursion IsSound ps → AllByRecursion IsSound (keyed by ps)
keyed_sound by [] h = tt
keyed_sound by (p ∷ ps) h = (
  record { name = key_bytes by p.name h.0.name; text = h.0.text; font = h.0.font; spelled = h.0.spelled },
  keyed_sound by ps h.1,
)

-- what holds of places' keys holds of the keys of a pool
pub names_hold : (Q : List ℕ → Type 0) (seen : List (List ℕ)) (ps : List Place) → AllByRecursion (λ p. Q p.name) ps → AllByRecursion Q (names_from seen ps)
names_hold Q seen [] h = tt
names_hold Q seen (p ∷ ps) h = by_seen (is_seen seen p.name) (names_hold Q seen ps h.1) (names_hold Q (p.name ∷ seen) ps h.1)
  where
    by_seen : (b : Bool) → AllByRecursion Q (names_from seen ps) → AllByRecursion Q (names_from (p.name ∷ seen) ps) →
        AllByRecursion Q (cond b (names_from seen ps) (p.name ∷ names_from (p.name ∷ seen) ps))
    by_seen true fewer more = fewer
    by_seen false fewer more = (h.0, more)

pub keys_regular : (start : List ℕ) (by : Key) (ps : List Place) → AllByRecursion IsNamed ps → AllByRecursion IsRegular (keys_of start by ps)
keys_regular start by ps named = by_clash (any_clashes start ps || any_clashes start (keyed by ps))
  where
    each : (qs : List Place) → AllByRecursion IsNamed qs → AllByRecursion (λ q. IsRegular q.name) (keyed by qs)
    each [] h = tt
    each (q ∷ qs) h = (key_regular by q.name h.0, each qs h.1)

    by_clash : (b : Bool) → AllByRecursion IsRegular (cond b [] (names_from [] (keyed by ps)))
    by_clash true = tt
    by_clash false = names_hold IsRegular [] (keyed by ps) (each ps named)
