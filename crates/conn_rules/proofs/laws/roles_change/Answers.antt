-- SPDX-License-Identifier: MIT OR Apache-2.0
use Rattle.conn_rules.specs.Table.{row_of}
use Rattle.conn_rules.proofs.RolesAccount.{keeps_account_row}
use Rattle.conn_rules.proofs.RolesApart.{remains_apart_row}
use Rattle.conn_rules.proofs.RolesTable.{changes_roles_row}
use Rattle.conn_rules.proofs.laws.roles_change.Goals as goal

pub returns-clause-steps : goal.returns-clause-steps
returns-clause-steps c s input offer valid = changes_roles_row s input offer valid

pub returns-clause-account : goal.returns-clause-account
returns-clause-account c s input offer valid = keeps_account_row s input offer (row_of s input offer) (changes_roles_row s input offer valid)

pub returns-clause-apart : goal.returns-clause-apart
returns-clause-apart c s input offer valid apart is_new = remains_apart_row s input offer (row_of s input offer) apart is_new (changes_roles_row s input offer valid)
