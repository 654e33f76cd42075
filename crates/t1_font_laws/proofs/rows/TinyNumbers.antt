-- The numbers of Tiny's files, as they are written.
use Rattle.std.{proofs.Common.{◌≡◌, arith}, specs.{Prelude.{codes}, Fmt.{decimal as digits}}}
use Rattle.t1_font_laws.proofs.Decimals.{shown}

pub n0 : digits 0 ≡ codes "0"
n0 = shown 0 (omega arith)

pub n1 : digits 1 ≡ codes "1"
n1 = shown 1 (omega arith)

pub n2 : digits 2 ≡ codes "2"
n2 = shown 2 (omega arith)

pub n3 : digits 3 ≡ codes "3"
n3 = shown 3 (omega arith)

pub n4 : digits 4 ≡ codes "4"
n4 = shown 4 (omega arith)

pub n5 : digits 5 ≡ codes "5"
n5 = shown 5 (omega arith)

pub n6 : digits 6 ≡ codes "6"
n6 = shown 6 (omega arith)

pub n7 : digits 7 ≡ codes "7"
n7 = shown 7 (omega arith)

pub n8 : digits 8 ≡ codes "8"
n8 = shown 8 (omega arith)

pub n9 : digits 9 ≡ codes "9"
n9 = shown 9 (omega arith)

pub n10 : digits 10 ≡ codes "10"
n10 = shown 10 (omega arith)

pub n11 : digits 11 ≡ codes "11"
n11 = shown 11 (omega arith)

pub n12 : digits 12 ≡ codes "12"
n12 = shown 12 (omega arith)

pub n14 : digits 14 ≡ codes "14"
n14 = shown 14 (omega arith)

pub n15 : digits 15 ≡ codes "15"
n15 = shown 15 (omega arith)

pub n16 : digits 16 ≡ codes "16"
n16 = shown 16 (omega arith)

pub n18 : digits 18 ≡ codes "18"
n18 = shown 18 (omega arith)

pub n19 : digits 19 ≡ codes "19"
n19 = shown 19 (omega arith)

pub n50 : digits 50 ≡ codes "50"
n50 = shown 50 (omega arith)

pub n65 : digits 65 ≡ codes "65"
n65 = shown 65 (omega arith)

pub n66 : digits 66 ≡ codes "66"
n66 = shown 66 (omega arith)

pub n194 : digits 194 ≡ codes "194"
n194 = shown 194 (omega arith)
