pub mod AlarmJoints
