use Rattle.std.{proofs.Common.{◌≡◌, ◌++◌, ◌∙◌, None, map, refl, sym, ap}, specs.{Cmp.Lexicographic.{nat_list_cmp_total}, Str.{bytes_eq}}}
use Rattle.t1_join.proofs.{Sorted.{rises_of, map_of}, TablePasses.{ahead, meets, first_ends, second_ends, merged_entries}}
use Rattle.t1_font.specs.{FontValue.{name_cmp}, Lent.{lent_glyph}, Maps.{merged}}
use Rattle.t1_font.proofs.{canonical.FontAgain.{name_same}, passes.join_same_glyphs.Goals.{in_default, in_default-2}}
use Rattle.std.specs.FinMap as fin
use Rattle.t1_font.proofs.passes.join_same_glyphs.Goals as goal

pub pass-init : goal.pass-init
pass-init c =
    let es = fin.entries c.args.first.now in let fs = fin.entries c.args.second.now in (
      ap (λ gs. map lent_glyph gs ++ ahead name_cmp es fs 0 0) c.in_ok-all.ensures.items
          ∙ sym (merged_entries nat_list_cmp_total name_same c.args.first.now c.args.second.now),
      refl,
    )

pub made-requires : goal.made-requires
made-requires c = rises_of _ (merged c.args.first.now c.args.second.now) (c.in_ok-push_both.ensures.all ∙ c.pass.invariant.0)

pub returns : goal.returns
returns c =
    let es = fin.entries c.args.first.now in let fs = fin.entries c.args.second.now in let i = c.pass.i in let j = c.pass.j in
    let none : meets name_cmp es fs bytes_eq i j ≡ None = elim c.match-at.branch [
      | in_default w ↦ second_ends name_cmp es fs i j bytes_eq
          (sym w.in_default.ensures'.entry)
      | in_default-2 w ↦ first_ends name_cmp es fs i j bytes_eq (sym w.in_default.ensures.entry)
    ] in
    (c.made.ensures ∙ map_of _ (merged c.args.first.now c.args.second.now) (c.in_ok-push_both.ensures.all ∙ c.pass.invariant.0), sym c.pass.invariant.1 ∙ none)
