-- Documents as one document: there is one.
use Rattle.std.proofs.Common.{◌≡◌, ◌≤◌, ◌<◌, ◌+◌, ◌++◌, ℕ, Bool, true, false, List, length, get_or, drop, sym, ap, subst, ◌∙◌, arith, append_assoc, Ok, Err}
use Rattle.std.proofs.lemmas.List.{append-nil, drop_more, drop_all}
use Rattle.t1_document.specs.{declared.pooling.Key.TheVariants.{Name, Family}, declared.entries.Least.TheVariants.{One}, Apart.{PooledApartBy}}
use Rattle.t1_document.proofs.FoundApart.{pooled_apart}
use Rattle.t1_dsc.specs.Joining.{joined_pages}
use Rattle.t1_cmd.specs.{declared.faults.Reason.{Reason}, declared.pools.Pooling.{Pooling}, Pages.{PooledApartAs, PagedAs, PagesTo, PoolsAs, PoolsTo, whole_line, whole_lines}}
use Rattle.t1_cmd.specs.declared.faults.Reason.TheVariants.{TooLong, Memory, List as ListReason, Join as JoinReason, Font, NoGlyph, NoCode}
use Rattle.t1_cmd.specs.declared.faults.Reason.TheVariants.{NoFont, Document as DocumentReason, TooManyTokens, Lacks, Merge}
use Rattle.t1_cmd.proofs.DocumentCommands.{behind_apart}

-- ---- one text

both_same : (f : List ℕ → List ℕ → List ℕ) (a b c d : List ℕ) → a ≡ c → b ≡ d → f a b ≡ f c d
both_same f a b c d e h = ap (λ (x : List ℕ). f x b) e ∙ ap (λ (x : List ℕ). f c x) h

-- documents have one text of fonts apart, and become one list of documents
one_apart : (tags : Bool) (ds : List (List ℕ)) (f g : List ℕ) (a b : List (List ℕ)) → PooledApartAs tags ds f a → PooledApartAs tags ds g b →
    (f ≡ g) × (a ≡ b)
one_apart false ds f g a b h k = pooled_apart.one One Name ds f g a b h k
one_apart true ds f g a b h k =
    let x = pooled_apart.one One Family ds h.0 k.0 h.2 k.2 h.3 k.3 in
    let y = pooled_apart.one One Name h.2 h.1 k.1 a b h.4 (subst (λ (m : List (List ℕ)). PooledApartBy One Name m k.1 b) (sym x.1) k.4) in
    (h.5 ∙ (both_same (λ s t. s ++ t) h.0 h.1 k.0 k.1 x.0 y.0 ∙ sym k.5), y.1)

-- documents become one document
one_paged : (tags : Bool) (ds : List (List ℕ)) (a b : List ℕ) → PagedAs tags ds a → PagedAs tags ds b → a ≡ b
one_paged tags ds a b h k =
    let x = one_apart tags ds h.0 k.0 h.1 k.1 h.2 k.2 in
    h.3 ∙ (ap (λ (f : List ℕ). joined_pages f h.1) x.0 ∙ (ap (λ (m : List (List ℕ)). joined_pages k.0 m) x.1 ∙ sym k.3))

-- ---- what has a text is refused for want of memory alone

pages_apart : (tags : Bool) (ds : List (List ℕ)) (text : List ℕ) (r : Reason) → PagesTo tags ds (Ok text) → PagesTo tags ds (Err r) → r ≡ Memory
pages_apart tags ds text TooLong h k = absurd (omega (arith, h.1, k.2, ap length (one_paged tags ds text k.0 h.0 k.1)))
pages_apart tags ds text Memory h k = absurd k
pages_apart tags ds text (ListReason f) h k = absurd k
pages_apart tags ds text (JoinReason f) h k = absurd k
pages_apart tags ds text (Font f) h k = absurd k
pages_apart tags ds text (NoGlyph n) h k = absurd k
pages_apart tags ds text (NoCode code) h k = absurd k
pages_apart tags ds text (DocumentReason why) h k = absurd k
pages_apart tags ds text (NoFont n) h k = absurd k
pages_apart tags ds text TooManyTokens h k = absurd k
pages_apart tags ds text (Lacks g q) h k = absurd k
pages_apart tags ds text (Merge e) h k = absurd k

by_dsc : (dsc tags : Bool) (ds : List (List ℕ)) (text : List ℕ) (r : Reason) → PoolsAs dsc tags ds (Ok text) → PoolsAs dsc tags ds (Err r) → r ≡ Memory
by_dsc true tags ds text r h k = pages_apart tags ds text r h k
by_dsc false tags ds text r h k = behind_apart tags ds text r h k

pub pools_apart : (how : Pooling) (ds : List (List ℕ)) (text : List ℕ) (r : Reason) → PoolsTo how ds (Ok text) → PoolsTo how ds (Err r) → r ≡ Memory
pools_apart how ds text r h k = by_dsc how.dsc how.tags ds text r h k

-- ---- lines of documents that are one page

-- a line more
pub wholes_more : (pages : List ℕ) (i d : ℕ) → i < length pages → (out more all : List ℕ) → more ≡ out ++ whole_line (i + 1) (get_or pages i d) →
    out ++ whole_lines (i + 1) (drop i pages) ≡ all → more ++ whole_lines (i + 1 + 1) (drop (i + 1) pages) ≡ all
wholes_more pages i d h out more all e was =
    ap (λ (t : List ℕ). t ++ whole_lines (i + 1 + 1) (drop (i + 1) pages)) e
    ∙ (append_assoc out (whole_line (i + 1) (get_or pages i d)) (whole_lines (i + 1 + 1) (drop (i + 1) pages))
    ∙ (ap (λ (ps : List ℕ). out ++ whole_lines (i + 1) ps) (sym (drop_more pages i d h)) ∙ was))

-- all of them
pub wholes_all : (pages : List ℕ) (i : ℕ) → length pages ≤ i → (out all : List ℕ) → out ++ whole_lines (i + 1) (drop i pages) ≡ all → out ≡ all
wholes_all pages i le out all was =
    sym (append-nil out) ∙ (ap (λ (ps : List ℕ). out ++ whole_lines (i + 1) ps) (sym (drop_all i pages le)) ∙ was)
