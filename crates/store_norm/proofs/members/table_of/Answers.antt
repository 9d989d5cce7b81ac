-- One more member is in the table, and the keys of those that are left are others.
use Rattle.std.proofs.Common.{◌≡◌, List, [], ◌∷◌, ◌++◌, ℕ, Some, append_assoc, bytes_eq, cond, option_map, sym, ap, ◌∙◌, subst, string_bytes}
use Rattle.std.proofs.lemmas.Map.Text.{hash_map_updates_str}
use Rattle.std.specs.HashMap as hash
use Rattle.std.specs.List.Sorted.{IsStrictlySortedBy}
use Rattle.std.specs.Map.{keys_of}
use Rattle.std.specs.String.{string_cmp}
use Rattle.serde_json.proofs.Views.{Entry}
use Rattle.serde_json.specs.Find.{get_member}
use Rattle.serde_json.specs.View.{members_view, view}
use Rattle.store_norm.proofs.TableSteps.{cond_mapped, later_in_order, none_later, one_tabled, or_else}
use Rattle.store_norm.proofs.members.table_of.Goals as goal

pub members-preserved : goal.members-preserved
members-preserved c =
    let done = c.members.invariant.0 in
    let e : Entry = (c.in-Some.key.now, c.in-Some.value.now) in
    let left = c.next.new.self in
    let all : c.args.map.now.entries ≡ done ++ e ∷ left = c.members.invariant.1 ∙ ap (λ es. done ++ es) c.in-Some.ensures.steps in
    let none = none_later e left (later_in_order done (e ∷ left) (subst (λ es. IsStrictlySortedBy string_cmp (keys_of es)) all c.len.ensures.ordered)) in (
      done ++ e ∷ [],
      all ∙ sym (append_assoc done (e ∷ []) left),
      λ key.
          let old = hash.get_by (λ k. bytes_eq key k.now) c.members.table in
          let new = hash.get_by (λ k. bytes_eq key k.now) c.insert.new.self in
          let updated : new ≡ cond (bytes_eq c.as_str.result.now key) (Some c.in-Some.value) old
          = hash_map_updates_str c.as_str.result.now c.members.table c.insert.new.self (Some c.in-Some.value) c.in_ok-insert.ensures.updates key in
          let is : option_map (λ v. view v.now) new ≡ cond (bytes_eq (string_bytes e.0) key) (Some (view e.1)) (option_map (λ v. view v.now) old)
          = ap (option_map (λ v. view v.now)) updated ∙ cond_mapped (λ v. view v.now) (bytes_eq c.as_str.result.now key) c.in-Some.value old
          ∙ ap (λ k. cond (bytes_eq k key) (Some (view e.1)) (option_map (λ v. view v.now) old)) c.as_str.ensures.value in
          one_tabled key e left (option_map (λ v. view v.now) old) (option_map (λ v. view v.now) new) none is
          ∙ ap (λ es. or_else (get_member key (members_view es)) (option_map (λ v. view v.now) old)) (sym c.in-Some.ensures.steps)
          ∙ c.members.invariant.2 key,
    )
