-- A fragment that does not apply, and one whose keys stand with those of others of its name.
use Rattle.std.proofs.Common.{◌≡◌, List, ap, ◌∙◌, arith, bytes_eq}
use Rattle.std.proofs.lemmas.Result.{on_ok_weaker}
use Rattle.doc_sites.specs.schema_types.FieldRules.{Key, keys_in}
use Rattle.doc_fields.specs.Heads.{keys_found}
use Rattle.doc_fields.specs.Keys.{Sum, join_sums, keys_view, sum_of}
use Rattle.doc_fields.proofs.HeadSteps.{head_passed, head_put}
use Rattle.doc_fields.proofs.heads.put_head.Goals as goal

pub returns-then-not-applies : goal.returns-then-not-applies
returns-then-not-applies c = λ n. head_passed (keys_found c.args.heads.now n) (keys_in c.args.schema.now c.args.root.now c.args.fragment.now.selections.now) _ (bytes_eq c.args.fragment.now.name.name.now n) (grind arith)

pub returns : goal.returns
returns c =
    let own : List Key = keys_in c.args.schema.now c.args.root.now c.args.fragment.now.selections.now in
    let before : Sum = keys_found c.args.heads.now c.args.fragment.now.name.name.now in
    let all : keys_view c.and-keys.result ≡ join_sums before (sum_of own) =
    c.and-keys.ensures ∙ ap (λ (s : Sum). join_sums s (keys_view c.keys_in-own.result)) c.keys.ensures ∙ ap (λ (s : Sum). join_sums before s) c.keys_in-own.ensures in
    on_ok_weaker c.set.result (λ put n. put n ∙ head_put (keys_found c.args.heads.now) c.args.fragment.now.name.name.now n _ own _ (grind arith) all) c.set.ensures
