-- The answers of the engine of listings.
use Rattle.std.proofs.Common.{◌≡◌, ℕ, refl, List, [], ◌∷◌, Ok}
use Rattle.t1_join.specs.ListingMeaning.{ListingMeaning}
use Rattle.t1_cmd.specs.{Files.{values_from}, Listings.{listing_input}}

-- what two texts say that both spell listings
pub both_said : (first second : List ℕ) (left right : ListingMeaning)
    → listing_input first ≡ Ok left → listing_input second ≡ Ok right → values_from listing_input 0 (first ∷ second ∷ []) ≡ Ok (left ∷ right ∷ [])
both_said first second left right h k = rw h (rw k refl)
