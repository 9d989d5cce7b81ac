-- Lists of commands.
use Rattle.std.proofs.Common.{◌≡◌, ℕ, suc, ◌+◌, ◌<◌, List, [], ◌∷◌, ◌++◌, length, get_or, drop, Option, Some, None, option_map, refl, ap, sym, ◌∙◌, append_assoc, add-one, drop-cons}
use Rattle.std.specs.Prelude.{option_and_then}
use Rattle.serde_json.specs.View.{view, items_view}
use Rattle.serde_json.specs.declared.value.Value.{Value}
use Rattle.store_model.specs.declared.command.Command.{Command}
use Rattle.store_model.specs.Events.{command_of, commands_in}

joins : (more : Option (List Command)) (done : List Command) (command : Command)
    → option_map (λ cs. done ++ cs) (option_map (λ cs. command ∷ cs) more) ≡ option_map (λ cs. (done ++ command ∷ []) ++ cs) more
joins None done command = refl
joins (Some cs) done command = ap Some (sym (append_assoc done (command ∷ []) cs))

abbrev put_first : Option Command → Option (List Command) → Option (List Command)
put_first first more = option_and_then (λ c. option_map (λ cs. c ∷ cs) more) first

-- one more command of the list
pub commands_more : (whole : Option (List Command)) (done new : List Command) (vs : List Value) (k : ℕ) (v : Value) (command : Command)
    → k < length vs → v ≡ get_or vs k v → Some command ≡ command_of (view v) → new ≡ done ++ command ∷ []
    → whole ≡ option_map (λ cs. done ++ cs) (commands_in (items_view (drop k vs)))
    → whole ≡ option_map (λ cs. new ++ cs) (commands_in (items_view (drop (k + 1) vs)))
commands_more whole done new vs k v command within is named put before =
    let more : Option (List Command) = commands_in (items_view (drop (suc k) vs)) in
    let here : drop k vs ≡ v ∷ drop (suc k) vs = drop-cons vs k v within ∙ ap (λ x. x ∷ drop (suc k) vs) (sym is) in
    let last : drop (suc k) vs ≡ drop (k + 1) vs = ap (λ n. drop n vs) (sym (add-one k)) in
    before
    ∙ ap (λ ws. option_map (λ cs. done ++ cs) (commands_in (items_view ws))) here
    ∙ ap (λ first. option_map (λ cs. done ++ cs) (put_first first more)) (sym named)
    ∙ joins more done command
    ∙ (λ i. option_map (λ cs. (sym put i) ++ cs) (commands_in (items_view (last i))))
