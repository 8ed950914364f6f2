-- Each that joins is the first of those that were to join.
use Rattle.std.proofs.Common.{◌≡◌, ◌-◌, length, sym, ◌∙◌, ap, arith, rules}
use Rattle.judge_search.specs.ByPlaces.{admit_all, admit}
use Rattle.judge_search.proofs.AdmissionLemmas.{none_joins_full, none_joins, one_joins, still_blocked}
use Rattle.judge_search.proofs.configuration.Configuration.admit_all.Goals as goal

pub returns-then-is_full : goal.returns-then-is_full
returns-then-is_full g c =
    let full = sym c.is_full.ensures.full ∙ c.if-is_full.true in
    record { admitted = sym (none_joins_full c.loop.self full) ∙ c.loop.invariant.same }

pub loop-preserved : goal.loop-preserved
loop-preserved g c =
    let room = sym c.is_full.ensures.full ∙ c.if-is_full.false in
    let is = c.in_ok-admit.ensures in
    let fewer : length c.admit.new.self.blocked ≡ length c.loop.self.blocked - 1 =
    ap (λ x. length x.blocked) is.admitted ∙ still_blocked c.loop.self in
    record {
      same = ap admit_all is.admitted ∙ one_joins c.loop.self room ∙ c.loop.invariant.same;
      blocked =
          let many = c.loop.invariant.blocked in
          let more = c.loop-test.true in
          let all : c.len-end.result ≡ length c.args.self.now.blocked = search rules in
          omega (arith, fewer, many, more, all);
    }

pub returns : goal.returns
returns g c =
    record {
      admitted =
          let many = c.loop.invariant.blocked in
          let past = c.loop-test.false in
          let all : c.len-end.result ≡ length c.args.self.now.blocked = search rules in
          let none : length c.loop.self.blocked ≡ 0 = omega (arith, many, past, all) in
          sym (none_joins c.loop.self none) ∙ c.loop.invariant.same;
    }
