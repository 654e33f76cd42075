-- Each file has exactly one flat text or bad place, and each flat text one split or reason.
use Rattle.std.proofs.Common.{ℕ, List, ◌++◌, ap, inl, inr}
use Rattle.t1_grammar.specs.Formats.{one_value, one_fault, not_both, one_or_other}
use Rattle.t1_bytes.{specs.{FlatText.{flat_text}, Split.{split}, Texts.{pfb_text}, Laws.{OneFlatText, FlattensWritten, OneSplit}}, proofs.PfbLemmas.{pfb_flat}}
use Rattle.t1_bytes.proofs.{FlatTexts.{flat_said, said_flat, bad_said, said_bad}, Splits.{split_said, said_split, fails_said, said_fails}}

pub one_flat : OneFlatText
one_flat = record {
  always = λ file. elim (one_or_other (flat_text file)) [
    | inl s ↦ inl (s.0, flat_said file s.0 s.1)
    | inr r ↦ inr (r.0, bad_said file r.0 r.1)
  ];
  texts = λ file flat other s t. one_value (flat_text file) flat other (said_flat file flat s) (said_flat file other t);
  places = λ file at other s t. one_fault (flat_text file) at other (said_bad file at s) (said_bad file other t);
  apart = λ file flat at s t. not_both (flat_text file) flat at (said_flat file flat s) (said_bad file at t);
}

pub written_flat : FlattensWritten
written_flat clear cipher trailer h k l =
    let file : List ℕ = pfb_text clear cipher trailer in
    let flat : List ℕ = clear ++ (cipher ++ trailer) in
    flat_said file flat ((flat_text file).takes flat (pfb_flat clear cipher trailer h k l))

pub one_split : OneSplit
one_split = record {
  always = λ flat. elim (one_or_other (split flat)) [
    | inl s ↦ inl (s.0.0, s.0.1, split_said flat s.0.0 s.0.1 s.1)
    | inr r ↦ inr (r.0, fails_said flat r.0 r.1)
  ];
  places = λ flat at other cipher found s t. ap (λ (x : ℕ × List ℕ). x.0)
      (one_value (split flat) (at, cipher) (other, found) (said_split flat at cipher s) (said_split flat other found t));
  ciphers = λ flat at other cipher found s t. ap (λ (x : ℕ × List ℕ). x.1)
      (one_value (split flat) (at, cipher) (other, found) (said_split flat at cipher s) (said_split flat other found t));
  reasons = λ flat fault other s t. one_fault (split flat) fault other (said_fails flat fault s) (said_fails flat other t);
  apart = λ flat at cipher fault s t. not_both (split flat) (at, cipher) fault (said_split flat at cipher s) (said_fails flat fault t);
}
