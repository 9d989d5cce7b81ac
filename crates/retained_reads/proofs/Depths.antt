-- Where all spreads may be entered, how deep a set is does not depend on how many more may be.
use Rattle.std.proofs.Common.{◌≡◌, ℕ, zero, suc, ◌+◌, max, Some, refl, sym, ap, subst, ◌∙◌}
use Rattle.plan_ir.specs.gql_ast.Sels as sels
use Rattle.plan_ir.specs.gql_ast.Sels.{Sels}
use Rattle.plan_ir.specs.Expansion.{Project}
use Rattle.plan_project.proofs.SpreadChains.{AllSpreads, Bounded}
use Rattle.relay_machine.specs.relay_model.Readings.{depth_inside, depth_of, depth_with}
use Rattle.plan_ir.specs.schema_tables.Types.{Text}
use Rattle.plan_ir.specs.schema_types.NameRules.{fragment_named}
use Rattle.plan_ir.specs.schema_types.Sites.{FragmentAt}

module _ (P Q : Text → Type 0) (deep other : Text → ℕ) (same : (n : Text) → P n → Q n → deep n ≡ other n) where
  same_with : (s : Sels) → AllSpreads P s → AllSpreads Q s → depth_with deep s ≡ depth_with other s
  same_with sels.end a b = refl
  same_with (sels.field r n xs ds s rest) a b =
      let inner = same_with s a.0 b.0 in
      let more = same_with rest a.1 b.1 in
      λ i. max (inner i + 1) (more i)
  same_with (sels.spread n ds rest) a b =
      let inner = same n a.0 b.0 in
      let more = same_with rest a.1 b.1 in
      λ i. max (inner i) (more i)
  same_with (sels.inline o ds s rest) a b =
      let inner = same_with s a.0 b.0 in
      let more = same_with rest a.1 b.1 in
      λ i. max (inner i) (more i)

module _ (p : Project) where
  abbrev Leads : ℕ → Text → Type 0
  Leads k n = (f : FragmentAt) × (fragment_named p.fragments n ≡ Some f) × Bounded p.fragments k f.selections

  abbrev inside : ℕ → Text → ℕ
  inside k n = depth_inside (λ f. depth_of k p f.selections + 1) (fragment_named p.fragments n)

  same_inside : (k j : ℕ) → ((s : Sels) → Bounded p.fragments k s → Bounded p.fragments j s → depth_of k p s ≡ depth_of j p s)
      → (n : Text) → Leads k n → Leads j n → inside k n ≡ inside j n
  same_inside k j deeper n a b =
      let same : b.0 ≡ a.0 = cc (a.1, b.1) in
      ap (depth_inside (λ f. depth_of k p f.selections + 1)) a.1
      ∙ ap (λ d. d + 1) (deeper a.0.selections a.2 (subst (λ (g : FragmentAt). Bounded p.fragments j g.selections) same b.2))
      ∙ sym (ap (depth_inside (λ f. depth_of j p f.selections + 1)) a.1)

  pub same_depth : (k j : ℕ) (s : Sels) → Bounded p.fragments k s → Bounded p.fragments j s → depth_of k p s ≡ depth_of j p s
  same_depth zero zero s a b = refl
  same_depth zero (suc j) s a b = same_with (λ n. ⊥) (Leads j) (λ n. 0) (inside j) (λ n i l. absurd i) s a b
  same_depth (suc k) zero s a b = same_with (Leads k) (λ n. ⊥) (inside k) (λ n. 0) (λ n i l. absurd l) s a b
  same_depth (suc k) (suc j) s a b = same_with (Leads k) (Leads j) (inside k) (inside j) (same_inside k j (same_depth k j)) s a b
