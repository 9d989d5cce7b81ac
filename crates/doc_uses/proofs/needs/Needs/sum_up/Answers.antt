-- What a name needs is put, with the uses in its fragments and what those need that they spread.
use Rattle.std.proofs.Common.{◌≡◌, true, List, ◌++◌, map, option_map, Vec, Global, ap, sym, subst, ◌∙◌, arith}
use Rattle.std.proofs.lemmas.Map.Text.{btree_map_updates_str}
use Rattle.doc_sites.specs.gql_plain.Order.{has_text}
use Rattle.doc_sites.specs.schema_types.ArgumentRules as rules
use Rattle.doc_sites.specs.gql_graph.Texts.{Text}
use Rattle.doc_sites.proofs.gql_graph_laws.Graphs.{is_some-map, map_cond}
use Rattle.doc_uses.specs.Needs.{Covers}
use Rattle.doc_uses.specs.UseView.{use_of}
use Rattle.doc_uses.specs.declared.uses.Use.{Use}
use Rattle.doc_uses.proofs.NeedSteps.{sums}
use Rattle.doc_uses.proofs.needs.Needs.sum_up.Goals as goal

pub returns-then-contains_key : goal.returns-then-contains_key
returns-then-contains_key c = λ next t uses g s. s

pub returns-then-not-has_room : goal.returns-then-not-has_room
returns-then-not-has_room c = λ next t uses g s. s

pub returns-then-not-is_known : goal.returns-then-not-is_known
returns-then-not-is_known c = λ next t uses g s. s

pub returns : goal.returns
returns c = λ next t uses g s.
    let has_room : c.in_ok-has_room.has_room ≡ true = grind arith in
    let is_known : c.in_ok-is_known.is_known ≡ true = grind arith in
    let name : Text = c.args.name.now in
    let all : List rules.Use = map use_of c.put_needs_of.new.all.items in
    let put = c.in_ok-has_room.ensures has_room in
    let below = c.in_ok-is_known.ensures is_known in
    let sent : map use_of c.new-all.result.items ++ map use_of c.uses.result.now ≡ uses name =
    ap (λ (us : List Use). map use_of us ++ map use_of c.uses.result.now) c.new-all.ensures.items ∙ c.uses.ensures uses g in
    let own : Covers all (uses name) = subst (λ (us : List rules.Use). Covers all us) sent (λ vs o e. put vs o (below.0 vs o e)) in
    sums c.args.self.now (record { by_name = c.insert.new.self }) name all next uses s (is_some-map _ _ ∙ sym c.contains_key.ensures ∙ c.if-contains_key.false)
    (λ n. ap (option_map (λ (us : Vec Use Global). map use_of us.items)) (btree_map_updates_str name c.args.self.now.by_name c.insert.new.self _ c.in_ok-insert.ensures.updates n) ∙ map_cond _ _ _ _)
    own (λ m h. below.1 m (ap (λ (l : List Text). has_text l m) (c.next.ensures next t) ∙ h))
