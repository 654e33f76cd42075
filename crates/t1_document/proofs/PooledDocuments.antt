-- Documents with entries before them and lines at their places: what the code writes is what was to be written.
use Rattle.std.{proofs.Common.{◌≡◌, ℕ, List, [], ◌++◌, Option, sym, ap, ◌∙◌}, specs.Prelude.{filter}}
use Rattle.t1_document.specs.{declared.pooling.Key.{Key}, declared.entries.Least.{Least}, declared.entries.Least.TheVariants.{Two}, Documents.{Place, Document}}
use Rattle.t1_document.specs.{Rewriting.{NewTexts, fated_bytes}, Joins.{names_from}, Apart.{entry_among, ends_among, fonts_among, left_among}}
use Rattle.t1_document.specs.Pooling.{Entry, keyed, keys_of, places_by, line_ends, prolog, line_fates, document_pooled, is_left_from}
use Rattle.t1_document.proofs.Rewritten.{fated_written}

-- the whole, of its parts
pub assembled : (start : List ℕ) (by : Key) (new : NewTexts) (d : Document) (bytes out total : List ℕ) (ends : NewTexts) →
    bytes ≡ fonts_among Two start by new d.places → ((name : List ℕ) → ends name ≡ ends_among Two start by new d.places name) → out ≡ prolog bytes →
    total ≡ out ++ fated_bytes (line_fates start by ends d.places) d.last → total ≡ document_pooled start by new d
assembled start by new d bytes out total ends b n o t =
    let own_ends : NewTexts = ends_among Two start by new d.places in
    let fonts = fonts_among Two start by new d.places in
    let each : ends ≡ own_ends = λ i name. n name i in
    t
    ∙ (ap (λ (x : List ℕ). x ++ fated_bytes (line_fates start by ends d.places) d.last) (o ∙ ap prolog b)
    ∙ (ap (λ (f : NewTexts). prolog fonts ++ fated_bytes (line_fates start by f d.places) d.last) each
    ∙ ap (λ (x : List ℕ). prolog fonts ++ x) (sym (fated_written (line_fates start by own_ends d.places) d.last))))

module _ (least : Least) (start : List ℕ) (by : Key) (new : NewTexts) (ps : List Place) where
  abbrev own : List ℕ → Option Entry
  own key = entry_among least start by new ps key

  abbrev own_ends : NewTexts
  own_ends = ends_among least start by new ps

  -- the ends of lines, where entries and keys are these
  pub ends_so : (entry : List ℕ → Option Entry) (keys : List (List ℕ)) → ((key : List ℕ) → entry key ≡ own key) → keys ≡ keys_of start by ps →
      (name : List ℕ) → line_ends entry keys name ≡ own_ends name
  ends_so entry keys e k name =
      let same : entry ≡ own = λ i key. e key i in
      ap (λ (f : List ℕ → Option Entry). line_ends f keys name) same ∙ ap (λ (ks : List (List ℕ)). line_ends own ks name) k

  -- the keys that are left, of those that have no lines
  pub left_so : (all left : List (List ℕ)) (groups : List ℕ → List Place) (ends : NewTexts) → ((key : List ℕ) → groups key ≡ places_by by key ps) →
      ((name : List ℕ) → ends name ≡ own_ends name) → all ≡ names_from [] (keyed by ps) →
      left ≡ filter (λ key. is_left_from least (new key) (groups key) (ends key)) all → left ≡ left_among least start by new ps
  left_so all left groups ends g n a l =
      let each : ends ≡ own_ends = λ i name. n name i in
      let there : groups ≡ (λ key. places_by by key ps) = λ i key. g key i in
      l
      ∙ (ap (λ (f : List ℕ → List Place). filter (λ key. is_left_from least (new key) (f key) (ends key)) all) there
      ∙ (ap (λ (f : NewTexts). filter (λ key. is_left_from least (new key) (places_by by key ps) (f key)) all) each
      ∙ ap (λ (ks : List (List ℕ)). filter (λ key. is_left_from least (new key) (places_by by key ps) (own_ends key)) ks) a))
