use Rattle.std.proofs.{Common.{rules}, lemmas.Fn.{always_returns_same}}
use Rattle.t1_font.{specs.Ranges.{bytes_at, front}, proofs.Presorted.{stable_by}}
use Rattle.t1_font.proofs.repeats.ByNameKeyOrderRange.presorted.Goals as goal

pub returns-clause-stable : goal.returns-clause-stable
returns-clause-stable g c =
    let buffer = c.args.self.buffer.now in
    stable_by front buffer c.args.entries.items c.sort_by_cached_key.new.self.items
    (c.in_ok-sort_by_cached_key.ensures.stable (λ e. front (bytes_at buffer e.0)) (always_returns_same _ _ _ (λ a r f' called. search rules)))
