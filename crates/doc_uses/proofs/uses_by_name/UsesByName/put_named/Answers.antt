-- The uses of a name with those that are put behind them.
use Rattle.std.proofs.Common.{◌≡◌, List, [], ◌++◌, map, Option, option_map, unwrap_or, bytes_eq, Vec, Global, ap, ◌∙◌}
use Rattle.std.proofs.lemmas.List.{map-append}
use Rattle.std.proofs.lemmas.Map.Text.{btree_map_updates_str}
use Rattle.std.specs.BTreeMap.{get_by}
use Rattle.std.specs.Cmp.Lexicographic.{slice_cmp}
use Rattle.std.specs.Ordering.{nat_cmp}
use Rattle.doc_sites.specs.schema_types.ArgumentRules as rules
use Rattle.doc_sites.specs.gql_graph.Texts.{Text}
use Rattle.doc_sites.proofs.gql_graph_laws.Graphs.{map_cond}
use Rattle.doc_uses.specs.UsesByName.{uses_found}
use Rattle.doc_uses.specs.UseView.{use_of}
use Rattle.doc_uses.specs.declared.uses.Use.{Use}
use Rattle.doc_uses.proofs.Gathering.{gathered_put}
use Rattle.doc_uses.proofs.uses_by_name.UsesByName.put_named.Goals as goal

pub returns : goal.returns
returns c = λ tells g n.
    let name : Text = c.args.name.now in
    let more : List Use = c.args.more.now in
    let items : c.extend_from_slice-2.new.self.items ≡ c.uses.result.now ++ more =
    c.in_ok-extend_from_slice-2.ensures.items
    ∙ ap (λ (us : List Use). us ++ more) (c.in_ok-extend_from_slice.ensures.items ∙ ap (λ (us : List Use). us ++ c.uses.result.now) c.new-uses.ensures.items) in
    let uses : map use_of c.extend_from_slice-2.new.self.items ≡ tells name ++ map use_of more =
    ap (map use_of) items ∙ map-append use_of c.uses.result.now more ∙ ap (λ (us : List rules.Use). us ++ map use_of more) (c.uses.ensures tells g) in
    let old : Option (Vec Use Global) = get_by (λ k. slice_cmp nat_cmp n k.now) c.args.self.now.by_name in
    ap (λ (o : Option (List rules.Use)). unwrap_or o []) (ap (option_map (λ (us : Vec Use Global). map use_of us.items)) (btree_map_updates_str name c.args.self.now.by_name c.insert.new.self _ c.in_ok-insert.ensures.updates n)
    ∙ map_cond (λ (us : Vec Use Global). map use_of us.items) (bytes_eq name n) c.extend_from_slice-2.new.self old)
    ∙ gathered_put tells name n (map use_of more) (map use_of c.extend_from_slice-2.new.self.items) (uses_found c.args.self.now n) uses (g n)
