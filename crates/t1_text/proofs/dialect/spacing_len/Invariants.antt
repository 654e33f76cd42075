use Rattle.std.proofs.Common.{◌≡◌, ◌+◌, Bool, drop, if◌then◌else◌}
use Rattle.t1_grammar.specs.Scans.{taken}
use Rattle.t1_text.specs.Dialect.{Between, Blank, Comment, spacing}
use Rattle.t1_text.proofs.dialect.spacing_len.Given as goal

-- where the machine is
abbrev pub place : Bool → Between
place in_comment = if in_comment then Comment else Blank

abbrev pub invariant-bytes : goal.invariant-bytes
invariant-bytes l = record {
  index : l.len ≡ l.byte-index;
  left : l.len + taken spacing (place l.in_comment) (drop l.byte-index l.bytes) ≡ taken spacing Blank l.bytes;
}
