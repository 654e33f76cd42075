-- What places come to doesn't hang on the bytes before them.
use Rattle.std.{proofs.Common.{◌≡◌, ℕ, Bool, true, false, refl, sym, ◌∙◌, ap, subst, List, [], ◌∷◌, map, Option, Some, None, Result, Ok, Err}, specs.{Prelude.{◌&&◌}, List.{list_all}, Str.{bytes_eq}}}
use Rattle.t1_font.specs.{declared.fault.ReadFault.{ReadFault}, FontValue.{FontValue}, ReadFont.{read_font_widely}, FontNames.{normalized_named}}
use Rattle.t1_document.specs.{declared.joins.Kept.TheVariants.{Unread, Unlike, Barred}, declared.joins.Outcome.{Outcome}, declared.joins.Outcome.TheVariants.{Same, Joined, Stays}, Documents.{Place}}
use Rattle.t1_document.specs.{Rewriting.{can_stand}, Joins.{fonts_of_places, with_font, ComeTo, OfPlaces, OfFonts, OfNormalized}}

-- a place without the bytes before it
abbrev pub bare : Place → Place
bare p = record p { before = [] }

fonts_bare : (ps : List Place) → fonts_of_places (map bare ps) ≡ fonts_of_places ps
fonts_bare [] = refl
fonts_bare (p ∷ ps) = ap (with_font (read_font_widely p.text)) (fonts_bare ps)

stand_bare : (text : List ℕ) (ps : List Place) → list_all (can_stand text) (map bare ps) ≡ list_all (can_stand text) ps
stand_bare text [] = refl
stand_bare text (p ∷ ps) = ap (λ (b : Bool). can_stand text p && b) (stand_bare text ps)

same_bare : (text : List ℕ) (ps : List Place) → list_all (λ q. bytes_eq text q.text) (map bare ps) ≡ list_all (λ q. bytes_eq text q.text) ps
same_bare text [] = refl
same_bare text (p ∷ ps) = ap (λ (b : Bool). bytes_eq text p.text && b) (same_bare text ps)

normalized_bare : (es : List FontValue) (ps : List Place) (o : Outcome) → OfNormalized es ps o → OfNormalized es (map bare ps) o
normalized_bare es ps (Same t) h = h
normalized_bare es ps (Joined t) h = (h.0, stand_bare t.items ps ∙ h.1)
normalized_bare es ps (Stays (Unread fault)) h = h
normalized_bare es ps (Stays (Unlike fault)) h = h
normalized_bare es ps (Stays Barred) h = (h.0, h.1, stand_bare h.0 ps ∙ h.2)

fonts_to : (name : List ℕ) (ps : List Place) (r : Result (List FontValue) ReadFault) (o : Outcome) → OfFonts name ps r o → OfFonts name (map bare ps) r o
fonts_to name ps (Ok fs) o h = normalized_bare (normalized_named name fs) ps o h
fonts_to name ps (Err fault) o h = h

places_to : (name : List ℕ) (ps : List Place) (text : List ℕ) (same : Bool) (o : Outcome) → OfPlaces name ps text same o →
    OfPlaces name (map bare ps) text same o
places_to name ps text true o h = h
places_to name ps text false o h =
    subst (λ (r : Result (List FontValue) ReadFault). OfFonts name (map bare ps) r o) (sym (fonts_bare ps)) (fonts_to name ps (fonts_of_places ps) o h)

-- places come to the same without the bytes before them
pub to_bare : (name : List ℕ) (ps : List Place) (o : Option Outcome) → ComeTo name ps o → ComeTo name (map bare ps) o
to_bare name [] o h = h
to_bare name (p ∷ ps) None h = h
to_bare name (p ∷ ps) (Some o) h =
    subst (λ (b : Bool). OfPlaces name (map bare (p ∷ ps)) p.text b o) (sym (same_bare p.text ps))
    (places_to name (p ∷ ps) p.text (list_all (λ q. bytes_eq p.text q.text) ps) o h)

-- ---- and back

normalized_from : (es : List FontValue) (ps : List Place) (o : Outcome) → OfNormalized es (map bare ps) o → OfNormalized es ps o
normalized_from es ps (Same t) h = h
normalized_from es ps (Joined t) h = (h.0, sym (stand_bare t.items ps) ∙ h.1)
normalized_from es ps (Stays (Unread fault)) h = h
normalized_from es ps (Stays (Unlike fault)) h = h
normalized_from es ps (Stays Barred) h = (h.0, h.1, sym (stand_bare h.0 ps) ∙ h.2)

fonts_from : (name : List ℕ) (ps : List Place) (r : Result (List FontValue) ReadFault) (o : Outcome) → OfFonts name (map bare ps) r o → OfFonts name ps r o
fonts_from name ps (Ok fs) o h = normalized_from (normalized_named name fs) ps o h
fonts_from name ps (Err fault) o h = h

places_from : (name : List ℕ) (ps : List Place) (text : List ℕ) (same : Bool) (o : Outcome) → OfPlaces name (map bare ps) text same o →
    OfPlaces name ps text same o
places_from name ps text true o h = h
places_from name ps text false o h =
    fonts_from name ps (fonts_of_places ps) o (subst (λ (r : Result (List FontValue) ReadFault). OfFonts name (map bare ps) r o) (fonts_bare ps) h)

from_bare : (name : List ℕ) (ps : List Place) (o : Option Outcome) → ComeTo name (map bare ps) o → ComeTo name ps o
from_bare name [] o h = h
from_bare name (p ∷ ps) None h = h
from_bare name (p ∷ ps) (Some o) h =
    places_from name (p ∷ ps) p.text (list_all (λ q. bytes_eq p.text q.text) ps) o
    (subst (λ (b : Bool). OfPlaces name (map bare (p ∷ ps)) p.text b o) (same_bare p.text ps) h)

-- places that are the same but for these come to the same
pub come_alike : (name : List ℕ) (ps qs : List Place) (o : Option Outcome) → map bare ps ≡ map bare qs → ComeTo name ps o → ComeTo name qs o
come_alike name ps qs o e h = from_bare name qs o (subst (λ (rs : List Place). ComeTo name rs o) e (to_bare name ps o h))
