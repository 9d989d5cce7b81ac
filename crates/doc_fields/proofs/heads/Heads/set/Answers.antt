-- What is put is found, and of other names what was found before.
use Rattle.std.proofs.Common.{Option, option_map, unwrap_or, bytes_eq, ap, ◌∙◌}
use Rattle.std.proofs.lemmas.Map.Text.{btree_map_updates_str}
use Rattle.std.specs.BTreeMap.{get_by}
use Rattle.std.specs.Cmp.Lexicographic.{slice_cmp}
use Rattle.std.specs.Ordering.{nat_cmp}
use Rattle.doc_fields.specs.Keys.{keys_view, no_key}
use Rattle.doc_fields.specs.declared.keys.RootKeys.{RootKeys}
use Rattle.doc_fields.proofs.HeadSteps.{found_put}
use Rattle.doc_fields.proofs.heads.Heads.set.Goals as goal

pub returns : goal.returns
returns c = λ n.
    ap (λ (o : Option RootKeys). unwrap_or (option_map keys_view o) no_key) (btree_map_updates_str c.args.name.now c.args.self.now.by_name c.insert.new.self _ c.in_ok-_before.ensures.updates n)
    ∙ found_put keys_view no_key (bytes_eq c.args.name.now n) c.args.keys.now (get_by (λ k. slice_cmp nat_cmp n k.now) c.args.self.now.by_name)
