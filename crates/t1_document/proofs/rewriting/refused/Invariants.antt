use Rattle.std.proofs.Common.{◌≡◌, ℕ, List, take, map}
use Rattle.t1_document.specs.{Rewriting.{is_refused, AllTried}, Texts.{text_in, has_text}, Views.{place_view}}
use Rattle.t1_document.proofs.rewriting.refused.Given as goal

abbrev pub invariant-places : goal.invariant-places
invariant-places l =
    ((name : List ℕ) → has_text l.refused name ≡ is_refused (text_in l.new) (map place_view (take l.place-index l.places)) name)
    × AllTried (text_in l.new) (text_in l.tried)
