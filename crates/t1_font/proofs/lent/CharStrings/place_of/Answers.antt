use Rattle.std.proofs.{Common.{rules, ap, sym, ◌∙◌, map}, lemmas.Fn.{always_returns_same}}
use Rattle.std.specs.{FinMap.{entries}, List.{slice_get}, Option.{option_and_then}, Cmp.Lexicographic.{nat_list_cmp_total}}
use Rattle.t1_join.proofs.TablePlaces.{found_place}
use Rattle.t1_font.{specs.{FontValue.{name_cmp}, Ranges.{bytes_at, named_at}, Lent.{named_entries, lent_glyph}}, proofs.canonical.FontAgain.{name_same}}
use Rattle.t1_font.proofs.lent.CharStrings.place_of.Goals as goal

pub returns-in-Stored : goal.returns-in-Stored
returns-in-Stored c =
    let position = c.binary_search_by.ensures.position (λ e. name_cmp (bytes_at c.in-Stored.buffer.now.items e.0) c.args.name.now)
    (always_returns_same _ _ _ (λ a r f called. search rules)) in
    ap (option_and_then (slice_get (entries c.args.self.now))) c.ok.ensures.value
    ∙ found_place (named_at c.in-Stored.buffer.now.items) c.in-Stored.places.now
    (named_entries c.self.inside.form) c.args.self.now (ap named_entries c.in-Stored.is)
    c.self.invariant c.self.view_is nat_list_cmp_total name_same c.args.name.now c.binary_search_by.result c.binary_search_by.ensures.bound position

pub returns-in-Made : goal.returns-in-Made
returns-in-Made c =
    let position = c.binary_search_by-in-Made.ensures.position (λ g. name_cmp (lent_glyph g).0 c.args.name.now)
    (always_returns_same _ _ _ (λ a r f called. search rules)) in
    ap (option_and_then (slice_get (entries c.args.self.now))) c.ok-in-Made.ensures.value
    ∙ found_place lent_glyph c.deref.result.now (named_entries c.self.inside.form) c.args.self.now
    (ap named_entries c.in-Made.is ∙ ap (map lent_glyph) (sym c.deref.ensures.value)) c.self.invariant c.self.view_is
    nat_list_cmp_total name_same c.args.name.now c.binary_search_by-in-Made.result c.binary_search_by-in-Made.ensures.bound position
