use Rattle.std.proofs.Common.{◌≡◌, ◌++◌, ◌∷◌, [], ap, ◌∙◌, arith}
use Rattle.std.proofs.lemmas.Result.{err_from_is_err_and}
use Rattle.gql_syntax.specs.Nexts.{token_count}
use Rattle.gql_sdl.proofs.InputReads.{behind-fewer}
use Rattle.gql_syntax.proofs.Tokens.{comes_at}
use Rattle.gql_syntax.specs.gql_lex.Toks.{punctuator_of}
use Rattle.gql_sdl.proofs.InputReads.{behind-count}
use Rattle.gql_sdl.proofs.ListReads.{locations_separated, locations_laws}
use Rattle.gql_sdl.proofs.Loops.{some-then}
use Rattle.gql_sdl.proofs.Separated.{listed-first, listed-then, listed-fails, listed-none, listed-ended}
use Rattle.gql_sdl.proofs.lists.read_led_locations.Goals as goal

pub returns-in_err-first-clause-reads : goal.returns-in_err-first-clause-reads
returns-in_err-first-clause-reads c =
    let e = err_from_is_err_and c.from_residual.result c.from_residual.ensures.1 in
    rw (e.1, e.2) (listed-none locations_separated locations_laws c.args.cursor.now c.in_err-first.field-0.0 c.in_err-first.ensures.fault)

pub locations-init : goal.locations-init
locations-init c =
    let pushed : c.push.new.self ≡ c.in_ok-first.first ∷ [] = c.in_ok-push.ensures.ok ∙ ap (λ xs. xs ++ c.in_ok-first.first ∷ []) c.new-locations.ensures in
    record {
      reads = listed-first locations_separated locations_laws c.args.cursor.now c.read_location.new.cursor c.in_ok-first.first c.push.new.self pushed c.in_ok-first.ensures.name c.in_ok-first.ensures.source c.in_ok-first.ensures.places c.read_location.ensures.same;
      some = rw pushed tt;
    }

pub returns-in_err-location-clause-reads : goal.returns-in_err-location-clause-reads
returns-in_err-location-clause-reads c =
    let e = err_from_is_err_and c.from_residual-in_err-location.result c.from_residual-in_err-location.ensures.1 in
    rw (e.1, e.2) (listed-fails locations_separated locations_laws c.args.cursor.now c.locations.cursor c.skip.new.self c.locations.locations c.in_err-location.field-0.0 c.locations.invariant.reads (cc)
    c.in_ok-skip.ensures.source c.skip.ensures.same c.in_err-location.ensures.fault)

pub locations-preserved : goal.locations-preserved
locations-preserved c = record {
  reads = listed-then locations_separated locations_laws c.args.cursor.now c.locations.cursor c.skip.new.self c.read_location-in-locations.new.cursor c.locations.locations c.push-in-locations.new.self c.in_ok-location.location c.locations.invariant.reads c.locations.invariant.some (cc)
      c.in_ok-skip.ensures.source c.in_ok-skip.ensures.places c.skip.ensures.same
      c.in_ok-location.ensures.name c.in_ok-location.ensures.source c.in_ok-location.ensures.places c.read_location-in-locations.ensures.same c.in_ok-push-2.ensures.ok;
  some = rw c.in_ok-push-2.ensures.ok (some-then c.locations.locations c.in_ok-location.location);
}

pub locations-smaller : goal.locations-smaller
locations-smaller c =
    omega (arith, behind-fewer c.locations.cursor.source (punctuator_of 124) (comes_at 124 c.locations.cursor.source (cc)), ap token_count c.in_ok-skip.ensures.source, behind-count c.skip.new.self.source, ap token_count c.in_ok-location.ensures.source)

pub returns-clause-reads : goal.returns-clause-reads
returns-clause-reads c =
    let fitted : c.shrink_to_fit.new.self.items ≡ c.locations.locations = cc in
    rw fitted (listed-ended locations_separated locations_laws c.args.cursor.now c.locations.cursor c.locations.locations c.locations.invariant.reads (cc))
