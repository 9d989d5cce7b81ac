-- The members one after another.
use Rattle.std.proofs.Common.{◌∷◌, ◌++◌, [], ap, ◌∙◌}
use Rattle.json.specs.Token.{string}
use Rattle.store_show.proofs.ShowTokens.{identity_written}
use Rattle.store_show.proofs.showing.show_identity.Goals as goal

pub returns-clause-tokens : goal.returns-clause-tokens
returns-clause-tokens c =
    identity_written c.args.owner.now c.args.id.now c.args.out.now.tokens c.key.new.self.tokens c.string.new.self.tokens c.key-2.new.self.tokens c.string-2.new.self.tokens
    c.in_ok-key.ensures.ok c.in_ok-string.ensures.ok c.in_ok-key-2.ensures.ok (c.in_ok-string-2.ensures.ok ∙ ap (λ o. c.key-2.new.self.tokens ++ string o ∷ []) c.as_str.ensures)
