-- What the engine of listings answers.
use Rattle.std.specs.Prelude.{ℕ, ◌≡◌, ◌⊎◌, List, [], ◌∷◌, Result, Ok, Err, IfSome}
use Rattle.t1_join.specs.{declared.listing.ListFault.{ListFault}, declared.listing.ListFault.TheVariants.{BadLine, Repeated, Memory as ListMemory}, declared.listing.JoinFault.{JoinFault}}
use Rattle.t1_join.specs.{declared.listing.JoinFault.TheVariants.{Subr, Glyph, Memory as JoinMemory}, ListingMeaning.{ListingMeaning}, ListingText.{listing_of, text_of}}
use Rattle.t1_join.specs.ListingJoin.{IsJoined, IsJoinFault}
use Rattle.t1_cmd.specs.{declared.faults.Reason.{Reason}, declared.faults.Reason.TheVariants.{Memory, List as ListReason, Join as JoinReason}, declared.faults.RunFault.{RunFault}}
use Rattle.t1_cmd.specs.{declared.faults.RunFault.TheVariants.{Refused}, Inputs.{Input}, Runs.{InputStops}, Answers.{with_reason, within_limit, MayRefuse}}

-- a fault of a listing as a reason
abbrev pub list_reason : ListFault → Reason
list_reason ListMemory = Memory
list_reason (BadLine n) = ListReason (BadLine n)
list_reason (Repeated n) = ListReason (Repeated n)

-- a fault of a join as a reason
abbrev pub join_reason : JoinFault → Reason
join_reason JoinMemory = Memory
join_reason (Subr i) = JoinReason (Subr i)
join_reason (Glyph n) = JoinReason (Glyph n)

-- the listing that a text spells
abbrev pub listed : List ℕ → Result ListingMeaning Reason
listed text = with_reason list_reason (listing_of text)

-- the listing that an input spells, within the limit
abbrev pub listing_input : List ℕ → Result ListingMeaning Reason
listing_input = within_limit listed

-- two listings are answered with the text of their join, or with their lowest conflict
abbrev pub JoinsTo : List ListingMeaning → Result (List ℕ) Reason → Type 0
JoinsTo (left ∷ right ∷ []) (Ok text) = (both : ListingMeaning) × IsJoined left right both × (text ≡ text_of both)
JoinsTo (left ∷ right ∷ []) (Err r) = (fault : JoinFault) × IsJoinFault left right fault × (r ≡ join_reason fault)
JoinsTo others answer = ⊥

-- the text of the join of a listing and of that of an input
abbrev pub JoinsRead : Input → ListingMeaning → List ℕ → Type 0
JoinsRead i left text = (right : ListingMeaning) × IfSome i.known (λ bytes. listing_input bytes ≡ Ok right) × JoinsTo (left ∷ right ∷ []) (Ok text)

-- both are refused together
abbrev pub RefusedWith : Input → ListingMeaning → RunFault → Type 0
RefusedWith i left (Refused r) = (right : ListingMeaning) × IfSome i.known (λ bytes. listing_input bytes ≡ Ok right) × MayRefuse (JoinsTo (left ∷ right ∷ [])) r
RefusedWith i left other = ⊥

-- why it is not answered: the input stops, or both are refused together
abbrev pub StopsRead : Input → ListingMeaning → RunFault → Type 0
StopsRead i left e = InputStops listing_input i e ⊎ RefusedWith i left e
