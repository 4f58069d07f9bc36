use Rattle.std.proofs.Common.{subst}
use Rattle.tp_base.specs.declared.answers.Outcome.{Outcome}
use Rattle.recorded.specs.Recordings.{IsFirstOf}
use Rattle.pool_book.proofs.Making.{there, entered, looked}
use Rattle.pool_book.proofs.BookRecorded.step_into.Goals as goal

pub invariant_of-self : goal.invariant_of-self
invariant_of-self c =
    let a = c.self.inside in
    (entered a.engine c.step_into.new.self a.limits a.capacity a.len c.room-room.result a.past c.args.self.now c.args.who c.args.call.now c.step_into.new.outcome
    c.self.invariant c.self.view_is c.room-room.ensures c.step_into.ensures.made.meets c.in-Done.answer c.push.new.self c.in-Done.is c.push.ensures).book

pub returns-in-Done-clause-first : goal.returns-in-Done-clause-first
returns-in-Done-clause-first c =
    let a = c.self.inside in
    subst (λ (o : Outcome). IsFirstOf c.args.self.now (there a.limits a.capacity c.push.new.self) c.args.who c.args.call.now o) c.in-Done.is
    (entered a.engine c.step_into.new.self a.limits a.capacity a.len c.room-room.result a.past c.args.self.now c.args.who c.args.call.now c.step_into.new.outcome
    c.self.invariant c.self.view_is c.room-room.ensures c.step_into.ensures.made.meets c.in-Done.answer c.push.new.self c.in-Done.is c.push.ensures).first

pub returns-in-Done-clause-legal : goal.returns-in-Done-clause-legal
returns-in-Done-clause-legal c =
    let a = c.self.inside in
    (entered a.engine c.step_into.new.self a.limits a.capacity a.len c.room-room.result a.past c.args.self.now c.args.who c.args.call.now c.step_into.new.outcome
    c.self.invariant c.self.view_is c.room-room.ensures c.step_into.ensures.made.meets c.in-Done.answer c.push.new.self c.in-Done.is c.push.ensures).book.legal

pub returns-in-Done-clause-laws : goal.returns-in-Done-clause-laws
returns-in-Done-clause-laws c =
    let a = c.self.inside in
    (entered a.engine c.step_into.new.self a.limits a.capacity a.len c.room-room.result a.past c.args.self.now c.args.who c.args.call.now c.step_into.new.outcome
    c.self.invariant c.self.view_is c.room-room.ensures c.step_into.ensures.made.meets c.in-Done.answer c.push.new.self c.in-Done.is c.push.ensures).laws

pub returns-in_default : goal.returns-in_default
returns-in_default c =
    let a = c.self.inside in
    let made = looked a.engine c.step_into.new.self a.limits a.capacity a.len c.room-room.result a.past c.args.self.now c.args.who c.args.call.now c.step_into.new.outcome
    c.self.invariant c.self.view_is c.room-room.ensures c.step_into.ensures.made.meets c.in_default.not-Done in
    record { outcome = made.outcome; history = made.written; first = made.first; in_range = c.step_into.ensures.made.in_range; legal = made.book.legal; laws = made.laws }
