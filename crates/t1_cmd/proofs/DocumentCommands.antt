-- The commands about documents.
use Rattle.std.proofs.{Common.{◌≡◌, ℕ, Bool, arith, sym, ◌∙◌, List, Ok, Err}, lemmas.Option.{none-some}}
use Rattle.t1_cmd.specs.{declared.faults.Reason.{Reason}}
use Rattle.t1_cmd.specs.declared.faults.Reason.TheVariants.{TooLong, Memory, List as ListReason, Join as JoinReason, Font, NoGlyph, NoCode}
use Rattle.t1_cmd.specs.declared.faults.Reason.TheVariants.{NoFont, Document as DocumentReason, TooManyTokens, Lacks, Merge}
use Rattle.t1_cmd.specs.{Documents.{PoolsBehind}, FontPlaces.{ListsTo}, Extracts.{ExtractsTo}}

-- ---- what has a text is refused for want of memory alone

pub behind_apart : (tags : Bool) (ds : List (List ℕ)) (text : List ℕ) (r : Reason) → PoolsBehind tags ds (Ok text) → PoolsBehind tags ds (Err r) → r ≡ Memory
behind_apart tags ds text TooLong h k = absurd (omega (arith, h.0, k))
behind_apart tags ds text Memory h k = absurd k
behind_apart tags ds text (ListReason f) h k = absurd k
behind_apart tags ds text (JoinReason f) h k = absurd k
behind_apart tags ds text (Font f) h k = absurd k
behind_apart tags ds text (NoGlyph n) h k = absurd k
behind_apart tags ds text (NoCode code) h k = absurd k
behind_apart tags ds text (DocumentReason why) h k = absurd k
behind_apart tags ds text (NoFont n) h k = absurd k
behind_apart tags ds text TooManyTokens h k = absurd k
behind_apart tags ds text (Lacks g q) h k = absurd k
behind_apart tags ds text (Merge e) h k = absurd k

pub lists_apart : (labels ds : List (List ℕ)) (text : List ℕ) (r : Reason) → ListsTo labels ds (Ok text) → ListsTo labels ds (Err r) → r ≡ Memory
lists_apart labels ds text r h k = absurd k

pub extracts_apart : (name : List ℕ) (ds : List (List ℕ)) (text : List ℕ) (r : Reason) → ExtractsTo name ds (Ok text) → ExtractsTo name ds (Err r) → r ≡ Memory
extracts_apart name ds text TooLong h k = absurd k
extracts_apart name ds text Memory h k = absurd k
extracts_apart name ds text (ListReason f) h k = absurd k
extracts_apart name ds text (JoinReason f) h k = absurd k
extracts_apart name ds text (Font f) h k = absurd k
extracts_apart name ds text (NoGlyph n) h k = absurd k
extracts_apart name ds text (NoCode code) h k = absurd k
extracts_apart name ds text (DocumentReason why) h k = absurd k
extracts_apart name ds text (NoFont n) h k = absurd (none-some h.0 (sym k.1 ∙ h.1))
extracts_apart name ds text TooManyTokens h k = absurd k
extracts_apart name ds text (Lacks g q) h k = absurd k
extracts_apart name ds text (Merge e) h k = absurd k
