-- Watches by their names, as the engine keeps them and as the machine has them.
use Rattle.std.proofs.Common.{◌≡◌, List, [], ◌∷◌, ◌++◌, length, Bool, true, false, ◌||◌, cond, bytes_eq, suc, refl, ap, subst, ◌∙◌}
use Rattle.line_engine.proofs.Names.{bytes_eq-sym}
use Rattle.line_engine.specs.Stands.{KeepsWatch, KeepsWatches}
use Rattle.relay_machine.specs.Machine as machine
use Rattle.relay_machine.specs.Machine.{Project, is_in_use, is_watch, without_watch}
use Rattle.plan_ir.specs.schema_tables.Types.{Text}
use Rattle.plan_ir.specs.store_model.Walks.{Slots}
use Rattle.store_watch.specs.Watching.{AreShown, Watch, is_live, shows, uses, without}

module _ (p : Project) where
  pub as_many : (ks : List Watch) (ws : List machine.Watch) → KeepsWatches p ks ws → length ks ≡ length ws
  as_many [] [] keeps = refl
  as_many [] (w ∷ ws) keeps = absurd keeps
  as_many (k ∷ ks) [] keeps = absurd keeps
  as_many (k ∷ ks) (w ∷ ws) keeps = ap (λ n. suc n) (as_many ks ws keeps.1)

  -- whether a watch has a name
  pub live_is : (ks : List Watch) (ws : List machine.Watch) (name : Text) → KeepsWatches p ks ws → is_live ks name ≡ is_watch ws name
  live_is [] [] name keeps = refl
  live_is [] (w ∷ ws) name keeps = absurd keeps
  live_is (k ∷ ks) [] name keeps = absurd keeps
  live_is (k ∷ ks) (w ∷ ws) name keeps = λ i. (bytes_eq-sym name k.name ∙ ap (λ t. bytes_eq t name) keeps.0.name) i || live_is ks ws name keeps.1 i

  -- whether a watch was started with a handle
  pub uses_is : (ks : List Watch) (ws : List machine.Watch) (handle : Text) → KeepsWatches p ks ws → uses ks handle ≡ is_in_use ws handle
  uses_is [] [] handle keeps = refl
  uses_is [] (w ∷ ws) handle keeps = absurd keeps
  uses_is (k ∷ ks) [] handle keeps = absurd keeps
  uses_is (k ∷ ks) (w ∷ ws) handle keeps = λ i. bytes_eq (keeps.0.what.handle i) handle || uses_is ks ws handle keeps.1 i

  -- one more
  pub one_more : (ks : List Watch) (ws : List machine.Watch) (k : Watch) (w : machine.Watch) → KeepsWatches p ks ws → KeepsWatch p k w
      → KeepsWatches p (ks ++ k ∷ []) (ws ++ w ∷ [])
  one_more [] [] k w keeps last = (last, tt)
  one_more [] (v ∷ ws) k w keeps last = absurd keeps
  one_more (j ∷ ks) [] k w keeps last = absurd keeps
  one_more (j ∷ ks) (v ∷ ws) k w keeps last = (keeps.0, one_more ks ws k w keeps.1 last)

  -- one less
  less : (b : Bool) (k : Watch) (ks js : List Watch) (w : machine.Watch) (ws vs : List machine.Watch) → KeepsWatch p k w → KeepsWatches p ks ws → KeepsWatches p js vs
      → KeepsWatches p (cond b ks (k ∷ js)) (cond b ws (w ∷ vs))
  less true k ks js w ws vs first all rest = all
  less false k ks js w ws vs first all rest = (first, rest)

  pub one_less : (ks : List Watch) (ws : List machine.Watch) (name : Text) → KeepsWatches p ks ws → KeepsWatches p (without name ks) (without_watch name ws)
  one_less [] [] name keeps = tt
  one_less [] (w ∷ ws) name keeps = absurd keeps
  one_less (k ∷ ks) [] name keeps = absurd keeps
  one_less (k ∷ ks) (w ∷ ws) name keeps =
      subst (λ b. KeepsWatches p (without name (k ∷ ks)) (cond b ws (w ∷ without_watch name ws)))
      (bytes_eq-sym name k.name ∙ ap (λ t. bytes_eq t name) keeps.0.name)
      (less (bytes_eq name k.name) k ks (without name ks) w ws (without_watch name ws) keeps.0 keeps.1 (one_less ks ws name keeps.1))

-- ---- what they show

module _ (m : Slots) where
  pub shown_after : (ks : List Watch) (k : Watch) → AreShown m ks → k.kept ≡ shows m k.what → AreShown m (ks ++ k ∷ [])
  shown_after [] k all last = (last, tt)
  shown_after (j ∷ ks) k all last = (all.0, shown_after ks k all.1 last)

  shown_less : (b : Bool) (k : Watch) (ks js : List Watch) → k.kept ≡ shows m k.what → AreShown m ks → AreShown m js → AreShown m (cond b ks (k ∷ js))
  shown_less true k ks js first all rest = all
  shown_less false k ks js first all rest = (first, rest)

  pub shown_without : (ks : List Watch) (name : Text) → AreShown m ks → AreShown m (without name ks)
  shown_without [] name all = tt
  shown_without (k ∷ ks) name all = shown_less (bytes_eq name k.name) k ks (without name ks) all.0 all.1 (shown_without ks name all.1)
