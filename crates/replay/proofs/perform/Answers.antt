-- `replay::perform` meets its contract: a case for each call, by its byte.
use mathlib.Core.Path.{ap, ◌∙◌}
use native.Mathlib.Omega.{arith}
use Rattle.message.specs.LayoutNumber.{layout_of}
use Rattle.panel.specs.Calls.{panel_of}
use Rattle.panel.specs.Answers.{of_add, of_call, of_look}
use Rattle.replay.proofs.Laws.Script.{call-add, call_up, call-down, call-message, call-look}
use Rattle.replay.proofs.Laws.Replay.{handed_on, performs-as}
use Rattle.replay.proofs.perform.Goals as goal

pub returns-in-0 : goal.returns-in-0
returns-in-0 c =
    let a = c.args in
    let k = call-add a.script.now _ c.read.ensures c.in-0.is c.first_part.ensures c.second_part.ensures c.read-number.ensures in
    ap (handed_on (panel_of c.add-added.result.0)) c.after_add.ensures ∙ performs-as (panel_of a.panel) _ k (ap of_add c.add-added.ensures.equal)

pub returns-in-1 : goal.returns-in-1
returns-in-1 c =
    let a = c.args in
    let b = c.in-1.is in
    let k = call_up a.script.now _ c.read.ensures (λ z. omega (arith, b, z)) b
    (c.layout_of.ensures ∙ ap layout_of c.read-number.ensures) c.read-clock.ensures in
    ap (handed_on (panel_of c.link_up-done.result.0)) c.after_call.ensures ∙ performs-as (panel_of a.panel) _ k (ap of_call c.link_up-done.ensures.equal)

pub returns-in-2 : goal.returns-in-2
returns-in-2 c =
    let a = c.args in
    let b = c.in-2.is in
    let k = call-down a.script.now _ c.read.ensures (λ z. omega (arith, b, z)) (λ z. omega (arith, b, z)) b c.read-clock.ensures in
    ap (handed_on (panel_of c.link_down-done.result.0)) c.after_call-in-2.ensures ∙ performs-as (panel_of a.panel) _ k (ap of_call c.link_down-done.ensures.equal)

pub returns-in-3 : goal.returns-in-3
returns-in-3 c =
    let a = c.args in
    let b = c.in-3.is in
    let k = call-message a.script.now _ c.read.ensures (λ z. omega (arith, b, z)) (λ z. omega (arith, b, z)) (λ z. omega (arith, b, z)) b
    c.read-clock.ensures c.first_part-in-3.ensures in
    ap (handed_on (panel_of c.message-done.result.0)) c.after_call-in-3.ensures ∙ performs-as (panel_of a.panel) _ k (ap of_call c.message-done.ensures.equal)

pub returns-in_default : goal.returns-in_default
returns-in_default c =
    let a = c.args in
    let d = c.in_default in
    let k = call-look a.script.now _ c.read.ensures (λ z. omega (arith, d)) (λ z. omega (arith, d)) (λ z. omega (arith, d)) (λ z. omega (arith, d)) c.read-number.ensures c.read-clock.ensures in
    ap (handed_on (panel_of c.look.result.0)) c.after_look.ensures ∙ performs-as (panel_of a.panel) _ k (ap of_look c.look.ensures.equal)
