use Rattle.std.proofs.Common.{◌≡◌, ◌<◌, ◌^◌, drop}
use Rattle.relay_forms.proofs.Decimals.{value_from}
use Rattle.relay_forms.proofs.words.decimal_of.Given as goal
use Rattle.relay_forms.specs.Words.{decimal_in}

abbrev pub invariant-digits : goal.invariant-digits
invariant-digits l = record {
  so_far : value_from l.number (drop l.digit-index l.digits) ≡ decimal_in l.digits;
  fits : l.number < 2 ^ 64;
}
