-- Steps of the walk of a response by rows.
use Rattle.std.proofs.Common.{◌≡◌, ℕ, ◌+◌, ◌<◌, true, List, [], ◌∷◌, ◌++◌, bytes_eq, drop, length, get_or, map, Some, subst, ◌∙◌}
use Rattle.std.specs.List.{AllByRecursion}
use Rattle.plan_ir.specs.NormalMeaning.{Plan, collect_plan}
use Rattle.serde_json.specs.Data as J
use Rattle.serde_json.specs.View.{items_view, view}
use Rattle.serde_json.specs.declared.value.Value.{Value}
use Rattle.plan_ir.proofs.store_model_laws.Seated.{each_among, of_among}
use Rattle.plan_ir.specs.store_model.Items.{Below, Group}
use Rattle.plan_ir.specs.store_model.Records.{typename}
use Rattle.plan_ir.specs.store_model.Says.{Made, Path, Put, Report, both, element_of, elements_of, elements_under, fields_say, groups_say, no_report, report_pages, walks_of}
use Rattle.plan_ir.specs.store_model.declared.facts.Fact.{Fact}
use Rattle.plan_ir.specs.store_model.declared.facts.HandleFact.{HandleFact}
use Rattle.plan_ir.specs.store_model.declared.payload_fault.PathStep.TheVariants.{Index}
use Rattle.store_norm.proofs.WalkSteps.{drop_at}
use Rattle.store_norm.specs.Walk.{group_told}
use Rattle.plan_ir.specs.store_record.Keys.{Text}
use Rattle.plan_ir.specs.store_record.declared.field.Field.{Field}
use Rattle.store_report.proofs.AddSteps.{adds_none, adds_both, object_added}
use Rattle.store_report.specs.Gathering.{AreNamed, IsNamed, IsTypeName}
use Rattle.store_report.specs.ObjectRows.{Adds, HaveTypeNames, Held, HoldSame, facts_said, nothing_held, object_facts, with_open}

-- what is left says no more than the whole: what adds the one adds the other
abbrev pub Ends : Held → Held → Report → Report → Type 0
Ends start now left whole = (after : Held) → Adds now after left → Adds start after whole

pub ends_whole : (s : Held) (whole : Report) → Ends s s whole whole
ends_whole s whole after added = added

pub ends_here : (start now : Held) (whole : Report) → Ends start now no_report whole → Adds start now whole
ends_here start now whole ends = ends now (adds_none now)

pub ends_further : (start now more : Held) (one left whole : Report) → Ends start now (both one left) whole → Adds now more one → Ends start more left whole
ends_further start now more one left whole ends added after rest = ends after (adds_both now more after one left added rest)

-- one group more of those that are left
pub groups_taken : (id : Text) (path : Path) (ms : J.Members) (groups : List (Group Plan)) (at : ℕ) (g : Group Plan) → at < length groups → g ≡ get_or groups at g
    → (start now more : Held) (whole : Report) → Ends start now (groups_say collect_plan id path (walks_of collect_plan ms) (drop at groups)) whole
    → Adds now more (group_told id path ms g) → Ends start more (groups_say collect_plan id path (walks_of collect_plan ms) (drop (at + 1) groups)) whole
groups_taken id path ms groups at g within is start now more whole ends added =
    ends_further start now more (group_told id path ms g) (groups_say collect_plan id path (walks_of collect_plan ms) (drop (at + 1) groups)) whole
    (subst (λ gs. Ends start now (groups_say collect_plan id path (walks_of collect_plan ms) gs) whole) (drop_at groups at g within is) ends) added

-- one element more of those that are left
pub elements_taken : (items : List Value) (at : ℕ) (x : Value) (b : Below) (fs : List Plan) (made : Made) (path : Path) → at < length items → x ≡ get_or items at x
    → (start now more : Held) (whole : Report) → Ends start now (elements_under (elements_of collect_plan (items_view (drop at items))) b fs made at path).1 whole
    → Adds now more (element_of collect_plan (view x) b fs (made (Some at)) (path ++ Index at ∷ [])).1
    → Ends start more (elements_under (elements_of collect_plan (items_view (drop (at + 1) items))) b fs made (at + 1) path).1 whole
elements_taken items at x b fs made path within is start now more whole ends added =
    ends_further start now more (element_of collect_plan (view x) b fs (made (Some at)) (path ++ Index at ∷ [])).1
    (elements_under (elements_of collect_plan (items_view (drop (at + 1) items))) b fs made (at + 1) path).1 whole
    (subst (λ (xs : List Value). Ends start now (elements_under (elements_of collect_plan (items_view xs)) b fs made at path).1 whole) (drop_at items at x within is) ends) added

-- one page more of those that are left
pub pages_taken : (start now more : Held) (page : HandleFact) (pages rest : List HandleFact) {whole : Report} → Ends start now (report_pages pages) whole → pages ≡ page ∷ rest
    → Adds now more (report_pages (page ∷ [])) → Ends start more (report_pages rest) whole
pages_taken start now more page pages rest {whole} ends is put =
    ends_further start now more (report_pages (page ∷ [])) (report_pages rest) whole (subst (λ ps. Ends start now (report_pages ps) whole) is ends) put

pub pages_end : (start now : Held) (left given pages : List HandleFact) → Ends start now (report_pages left) (report_pages given) → left ≡ [] → given ≡ pages → Adds start now (report_pages pages)
pages_end start now left given pages ends gone is =
    subst (λ ps. Adds start now (report_pages ps)) is
    (ends_here start now (report_pages given) (subst (λ ps. Ends start now (report_pages ps) (report_pages given)) gone ends))

-- ---- an object whose row is whole

groups_told : (s t : Held) (a b : Text) (none fields : List (Text × Field)) (path : Path) (ms : J.Members) (gs hs : List (Group Plan)) → a ≡ b → none ≡ [] → gs ≡ hs
    → Adds (with_open a none s) (with_open a fields t) (groups_say collect_plan a path (walks_of collect_plan ms) gs)
    → Adds (with_open b [] s) (with_open b fields t) (groups_say collect_plan b path (walks_of collect_plan ms) hs)
groups_told s t a b none fields path ms gs hs id empty groups added =
    subst (λ x. Adds (with_open x [] s) (with_open x fields t) (groups_say collect_plan x path (walks_of collect_plan ms) hs)) id
    (subst (λ es. Adds (with_open a es s) (with_open a fields t) (groups_say collect_plan a path (walks_of collect_plan ms) hs)) empty
    (subst (λ gs. Adds (with_open a none s) (with_open a fields t) (groups_say collect_plan a path (walks_of collect_plan ms) gs)) groups added))

module _ (s t u : Held) (id own row_id row_name name : Text) (none fields : List (Text × Field)) (path : Path) (ms : J.Members) (gs hs : List (Group Plan))
    (is : id ≡ own) (empty : none ≡ []) (groups : gs ≡ hs) (row : row_id ≡ id) (named : row_name ≡ name)
    (added : Adds (with_open id none s) (with_open id fields t) (groups_say collect_plan id path (walks_of collect_plan ms) gs))
    (facts : HoldSame u.facts (t.facts ++ object_facts row_id row_name fields)) (handles : u.handles ≡ t.handles) (fault : u.fault ≡ t.fault) where
  pub fields_taken : Adds s u (fields_say collect_plan own name path (walks_of collect_plan ms) hs)
  fields_taken =
      object_added s t u own name path fields (groups_say collect_plan own path (walks_of collect_plan ms) hs) (groups_told s t id own none fields path ms gs hs is empty groups added)
      (subst (λ n. HoldSame u.facts (t.facts ++ object_facts own n fields)) named (subst (λ i. HoldSame u.facts (t.facts ++ object_facts i row_name fields)) (row ∙ is) facts)) handles fault

  -- an object whose id was taken before
  pub object_taken : (start : Held) (r : Report) → Adds start s r → Adds start u (both r (fields_say collect_plan own name path (walks_of collect_plan ms) hs))
  object_taken start r added = adds_both start s u r (fields_say collect_plan own name path (walks_of collect_plan ms) hs) added fields_taken

-- ---- the names of types

-- what holds of the facts of puts holds of those that are held
pub names_held : (s : Held) (r : Report) → Adds nothing_held s r → AreNamed r.puts → HaveTypeNames s.facts
names_held s r added named = each_among IsNamedFact s.facts (λ f h. of_among IsNamedFact f (facts_said r) (puts_named r.puts r.puts named) ((added.facts f).0 h))
  where
    IsNamedFact : Fact → Type 0
    IsNamedFact f = bytes_eq f.key typename ≡ true → IsTypeName f.value

    puts_named : (whole puts : List Put) → AllByRecursion (IsNamed whole) puts → AllByRecursion IsNamedFact (map (λ (p : Put). p.fact) puts)
    puts_named whole [] all = tt
    puts_named whole (p ∷ ps) all = (all.0.name, puts_named whole ps all.1)

pub ruleset taking = (adds_none)
