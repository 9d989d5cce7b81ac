use Rattle.std.proofs.Common.{[], ◌∷◌, codes, sym, subst}
use Rattle.plan_ir.specs.gql_plain.Tree.{text}
use Rattle.line_engine.proofs.OneLines.{each_append, shown_one}
use Rattle.line_engine.proofs.TellingLaws.{is_told, not_told}
use Rattle.line_engine.proofs.telling.put_notice.Goals as goal
use Rattle.line_engine.specs.Notices.{names_of}
use Rattle.line_engine.specs.Steps.{AreSingle, IsOneLine}
use Rattle.store_watch.specs.store_read.Reading.{reading_of}
use Rattle.store_watch.specs.Rows.{telling_of}

pub returns-then-not-notice-clause-text : goal.returns-then-not-notice-clause-text
returns-then-not-notice-clause-text c = not_told (names_of c.args.watches.now) c.args.n c.args.texts.now.items (telling_of c.args.notice.now) c.if-not-notice.true

pub returns-clause-text : goal.returns-clause-text
returns-clause-text c =
    is_told (names_of c.args.watches.now) c.args.n c.args.texts.now.items c.push.new.self.items c.in_ok-notice_line.field-0 c.name_at-name.result.now (telling_of c.args.notice.now)
    c.in_ok-push.ensures.items c.in_ok-notice_line.ensures c.name_at-name.ensures c.if-not-notice.false

pub returns-then-not-notice-clause-single : goal.returns-then-not-notice-clause-single
returns-then-not-notice-clause-single c = λ all. all

pub returns-clause-single : goal.returns-clause-single
returns-clause-single c = λ all.
    subst AreSingle (sym c.in_ok-push.ensures.items)
    (each_append IsOneLine c.args.texts.now.items (c.in_ok-notice_line.field-0 ∷ []) all
    (shown_one c.args.n (codes "notice", text c.name_at-name.result.now) (reading_of c.args.notice.now.snapshot) c.in_ok-notice_line.field-0 c.in_ok-notice_line.ensures, tt))
