use Rattle.std.proofs.Common.{rules, arith}
use Rattle.fe_disk.proofs.Stops.{put_stop, put_time, put_honest, put_size}
use Rattle.fe_disk.proofs.memory_disk.MemoryDiskDisk.write_at.Goals as goal

pub returns-clause-stop : goal.returns-clause-stop
returns-clause-stop c = put_stop c.put.result c.args.self.now c.put.new.self c.args.at c.args.bytes.now c.requires c.put.ensures.ok c.put.ensures.err

pub returns-clause-time : goal.returns-clause-time
returns-clause-time c = put_time c.put.result c.args.self.now c.put.new.self c.args.at c.args.bytes.now c.requires c.put.ensures.ok c.put.ensures.err

pub returns-clause-device : goal.returns-clause-device
returns-clause-device c =
    record {
      fault = search rules;
      still = search rules;
      one_fault = search rules;
      made = search rules;
      most = search rules;
      honesty = (λ _. c.put.ensures.honest, put_honest c.put.result c.args.self.now c.put.new.self c.args.at c.args.bytes.now c.requires c.put.ensures.ok c.put.ensures.err (λ i. omega (arith, c.type_inv.bytes i)));
      same_size = put_size c.put.result c.args.self.now c.put.new.self c.args.at c.args.bytes.now c.requires c.put.ensures.ok c.put.ensures.err;
    }
