use Rattle.std.proofs.Common.{◌≡◌, ◌++◌, [], ℕ, Bool, true, false, List, map, Vec, sym, ap, subst, ◌∙◌, true≢false}
use Rattle.t1_document.specs.{declared.pooling.Key.TheVariants.{Name, Family}, PoolLaws.{PooledByKeys}}
use Rattle.t1_cmd.specs.Documents.{PooledAs, TellsKeys, TellsPooled, new_lines}
use Rattle.t1_cmd.proofs.pools.pool_text.Goals as goal

-- texts as values
abbrev values : {Z : Type 0} → List (Vec ℕ Z) → List (List ℕ)
values ts = map (λ t. t.items) ts

by_names : (tags : Bool) (text out : List ℕ) → tags ≡ false → PooledByKeys Name text out → PooledAs tags text out
by_names false text out e h = h
by_names true text out e h = absurd (true≢false e)

by_families : (tags : Bool) (text between out : List ℕ) → tags ≡ true → PooledByKeys Name text between → PooledByKeys Family between out →
    PooledAs tags text out
by_families true text between out e h k = (between, h, k)
by_families false text between out e h k = absurd (true≢false (sym e))

tells_names : (tags : Bool) (text lines : List ℕ) (names : List (List ℕ)) → tags ≡ false → TellsKeys Name text names → lines ≡ new_lines [] names →
    TellsPooled tags text lines
tells_names false text lines names e h k = (names, h, k)
tells_names true text lines names e h k = absurd (true≢false e)

tells_families : (tags : Bool) (text between lines : List ℕ) (names families : List (List ℕ)) → tags ≡ true → PooledByKeys Name text between →
    TellsKeys Name text names → TellsKeys Family between families → lines ≡ new_lines [] names ++ new_lines names families → TellsPooled tags text lines
tells_families true text between lines names families e p h k l = (between, names, families, p, h, k, l)
tells_families false text between lines names families e p h k l = absurd (true≢false (sym e))

pub returns-then-not-tags-clause-text : goal.returns-then-not-tags-clause-text
returns-then-not-tags-clause-text c =
    by_names c.args.tags c.args.text.items c.in_ok-names.names.text.items c.if-not-tags.true
    (subst (λ (t : List ℕ). PooledByKeys Name t c.in_ok-names.names.text.items) c.as_slice.ensures.value c.in_ok-names.ensures.text)

pub returns-then-not-tags-clause-kept : goal.returns-then-not-tags-clause-kept
returns-then-not-tags-clause-kept c =
    tells_names c.args.tags c.args.text.items c.push_lines.new.out.items (values c.in_ok-names.names.lines.items) c.if-not-tags.true
    (subst (λ (t : List ℕ). TellsKeys Name t (values c.in_ok-names.names.lines.items)) c.as_slice.ensures.value c.in_ok-names.ensures.lines)
    (c.in_ok-push_lines.ensures
    ∙ (ap (λ (t : List ℕ). t ++ new_lines [] (values c.as_slice-2.result.now)) c.new-kept.ensures.items
    ∙ ap (λ ts. new_lines [] (values ts)) c.as_slice-2.ensures.value))

pub returns-clause-text : goal.returns-clause-text
returns-clause-text c =
    by_families c.args.tags c.args.text.items c.in_ok-names.names.text.items c.in_ok-families.families.text.items c.if-not-tags.false
    (subst (λ (t : List ℕ). PooledByKeys Name t c.in_ok-names.names.text.items) c.as_slice.ensures.value c.in_ok-names.ensures.text)
    (subst (λ (t : List ℕ). PooledByKeys Family t c.in_ok-families.families.text.items) c.as_slice-3.ensures.value c.in_ok-families.ensures.text)

pub returns-clause-kept : goal.returns-clause-kept
returns-clause-kept c =
    let names = values c.in_ok-names.names.lines.items in
    let families = values c.in_ok-families.families.lines.items in
    tells_families c.args.tags c.args.text.items c.in_ok-names.names.text.items c.push_lines-2.new.out.items names families c.if-not-tags.false
    (subst (λ (t : List ℕ). PooledByKeys Name t c.in_ok-names.names.text.items) c.as_slice.ensures.value c.in_ok-names.ensures.text)
    (subst (λ (t : List ℕ). TellsKeys Name t names) c.as_slice.ensures.value c.in_ok-names.ensures.lines)
    (subst (λ (t : List ℕ). TellsKeys Family t families) c.as_slice-3.ensures.value c.in_ok-families.ensures.lines)
    (c.in_ok-push_lines-2.ensures
    ∙ (ap (λ (t : List ℕ). t ++ new_lines (values c.as_slice-4.result.now) (values c.as_slice-5.result.now)) (c.in_ok-push_lines.ensures
    ∙ (ap (λ (t : List ℕ). t ++ new_lines [] (values c.as_slice-2.result.now)) c.new-kept.ensures.items
    ∙ ap (λ ts. new_lines [] (values ts)) c.as_slice-2.ensures.value))
    ∙ (ap (λ ts. new_lines [] names ++ new_lines (values ts) (values c.as_slice-5.result.now)) c.as_slice-4.ensures.value
    ∙ ap (λ ts. new_lines [] names ++ new_lines names (values ts)) c.as_slice-5.ensures.value)))
