use Rattle.std.proofs.Common.{◌++◌, ◌∷◌, [], refl, ap}
use Rattle.py_data.proofs.Steps.{stop_as, leads_begin, leads_own}
use Rattle.obj_str.specs.Cutting.{last_of}
use Rattle.obj_str.specs.Methods.{new_list, strings_then}
use Rattle.obj_str.proofs.JoinLoop.{made_safe, made_stop, made_turn, all_safe, all_met}
use Rattle.obj_str.proofs.splitting.finish_list.Goals as goal

pub make_piece-requires-clause-safe : goal.make_piece-requires-clause-safe
make_piece-requires-clause-safe g c =
    let l = leads_begin g.V.View.sense (strings_then new_list (last_of c.args.separator.now c.args.rest.now)
    c.args.values) c.args.v.now c.requires.safe c.requires.live in
    made_safe new_list _ c.args.values c.args.rest.now [] (ap (λ s. last_of s c.args.rest.now) c.in-Some.is) l

pub returns-in_err-piece-in-Some : goal.returns-in_err-piece-in-Some
returns-in_err-piece-in-Some g c =
    let l = leads_begin g.V.View.sense (strings_then new_list (last_of c.args.separator.now c.args.rest.now)
    c.args.values) c.args.v.now c.requires.safe c.requires.live in
    stop_as _ _ _ _ _ _ (made_stop new_list _ c.args.values c.args.rest.now []
    (ap (λ s. last_of s c.args.rest.now) c.in-Some.is) l _ _ c.in_err-piece-in-Some.ensures)
    c.from_residual.ensures.1

pub returns-in_err-push-in-Some : goal.returns-in_err-push-in-Some
returns-in_err-push-in-Some g c =
    let l = leads_begin g.V.View.sense (strings_then new_list (last_of c.args.separator.now c.args.rest.now)
    c.args.values) c.args.v.now c.requires.safe c.requires.live in
    let after = made_turn new_list _ c.args.values c.args.rest.now []
    (ap (λ s. last_of s c.args.rest.now) c.in-Some.is) l g.met.V.View.lawful c.make_piece.new.v
    c.in_ok-piece-in-Some.piece c.in_ok-piece-in-Some.ensures in
    stop_as _ _ _ _ _ _ (leads_own after) c.from_residual-in_err-push-in-Some.ensures.1

pub make_list-requires-clause-live : goal.make_list-requires-clause-live
make_list-requires-clause-live g c =
    let l = leads_begin g.V.View.sense (strings_then new_list (last_of c.args.separator.now c.args.rest.now)
    c.args.values) c.args.v.now c.requires.safe c.requires.live in
    let after = made_turn new_list _ c.args.values c.args.rest.now []
    (ap (λ s. last_of s c.args.rest.now) c.in-Some.is) l g.met.V.View.lawful c.make_piece.new.v
    c.in_ok-piece-in-Some.piece c.in_ok-piece-in-Some.ensures in
    after.live

pub make_list-requires-clause-safe : goal.make_list-requires-clause-safe
make_list-requires-clause-safe g c =
    let l = leads_begin g.V.View.sense (strings_then new_list (last_of c.args.separator.now c.args.rest.now)
    c.args.values) c.args.v.now c.requires.safe c.requires.live in
    let after = made_turn new_list _ c.args.values c.args.rest.now []
    (ap (λ s. last_of s c.args.rest.now) c.in-Some.is) l g.met.V.View.lawful c.make_piece.new.v
    c.in_ok-piece-in-Some.piece c.in_ok-piece-in-Some.ensures in
    all_safe new_list [] (c.args.values ++ c.in_ok-piece-in-Some.piece ∷ []) c.push.new.self refl
    c.in_ok-push-in-Some.ensures.ok after

pub make_list-requires-in-None-clause-safe : goal.make_list-requires-in-None-clause-safe
make_list-requires-in-None-clause-safe g c =
    let l = leads_begin g.V.View.sense (strings_then new_list (last_of c.args.separator.now c.args.rest.now)
    c.args.values) c.args.v.now c.requires.safe c.requires.live in
    all_safe new_list _ c.args.values c.args.values (ap (λ s. last_of s c.args.rest.now) c.in-None.is) refl l

pub returns-in_ok-push-in-Some : goal.returns-in_ok-push-in-Some
returns-in_ok-push-in-Some g c =
    let l = leads_begin g.V.View.sense (strings_then new_list (last_of c.args.separator.now c.args.rest.now)
    c.args.values) c.args.v.now c.requires.safe c.requires.live in
    let after = made_turn new_list _ c.args.values c.args.rest.now []
    (ap (λ s. last_of s c.args.rest.now) c.in-Some.is) l g.met.V.View.lawful c.make_piece.new.v
    c.in_ok-piece-in-Some.piece c.in_ok-piece-in-Some.ensures in
    all_met new_list [] (c.args.values ++ c.in_ok-piece-in-Some.piece ∷ []) c.push.new.self refl
    c.in_ok-push-in-Some.ensures.ok after _ _ c.make_list.ensures

pub returns-in-None : goal.returns-in-None
returns-in-None g c =
    let l = leads_begin g.V.View.sense (strings_then new_list (last_of c.args.separator.now c.args.rest.now)
    c.args.values) c.args.v.now c.requires.safe c.requires.live in
    all_met new_list _ c.args.values c.args.values (ap (λ s. last_of s c.args.rest.now) c.in-None.is) refl l _ _
    c.make_list-in-None.ensures
