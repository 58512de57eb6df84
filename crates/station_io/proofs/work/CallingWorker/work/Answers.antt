-- SPDX-License-Identifier: MIT OR Apache-2.0
use Rattle.controller_worker.specs.Call.{relayed_parts}
use Rattle.station_io.proofs.Calling.{calls}
use Rattle.station_io.proofs.work.CallingWorker.work.Goals as goal

pub returns : goal.returns
returns g c =
    let given = c.args.self in
    let relayed = c.call_worker-relayed.result in
    calls relayed.fault (record { controller = given.controller; desk = given.desk; putters = given.putters.items; told = g.K.Clock.told given.clock })
    (relayed_parts g.K.Clock.told relayed) c.call_worker-relayed.ensures.fault c.call_worker-relayed.ensures.runs
