use Rattle.std.proofs.Common.{◌≡◌, ◌+◌, ◌++◌, [], ◌∷◌, List, arith, subst, sym, ◌∙◌}
use Rattle.t1_font.specs.FontValue.{FontValue}
use Rattle.t1_cmd.{specs.Fonts.{input_by}, proofs.Files.{SoFar, none_read, one_more, refuses_all, all_read, no_error}}
use Rattle.t1_cmd.proofs.several.sources_of.Goals as goal

pub files-init : goal.files-init
files-init c = none_read (input_by c.args.taking) c.args.files.now c.new-sources.result.items c.new-sources.ensures.items

pub returns-in-Err-clause-refused : goal.returns-in-Err-clause-refused
returns-in-Err-clause-refused c =
    refuses_all (input_by c.args.taking) c.args.files.now c.files.place c.files.sources.items _ c.in-Err.reason c.refused_at.result c.files.invariant
    (omega (arith, c.files-test.true)) c.in-Err.ensures.refused c.refused_at.ensures

pub files-preserved : goal.files-preserved
files-preserved c =
    let more : c.push_item.new.items.items ≡ c.files.sources.items ++ c.in-Ok.source ∷ [] =
    no_error c.push_item.result _ (sym c.is_err.ensures.value ∙ c.if-is_err.false) c.push_item.ensures.added in
    subst (λ (fs : List FontValue). SoFar (input_by c.args.taking) (c.files.place + 1) c.args.files.now fs) (sym more)
    (one_more (input_by c.args.taking) c.args.files.now c.files.place c.files.sources.items _ c.in-Ok.source c.files.invariant
    (omega (arith, c.files-test.true)) c.in-Ok.ensures.source)

pub returns-clause-sources : goal.returns-clause-sources
returns-clause-sources c = all_read (input_by c.args.taking) c.args.files.now c.files.place c.files.sources.items c.files.invariant
    (omega (arith, c.files-test.false))
